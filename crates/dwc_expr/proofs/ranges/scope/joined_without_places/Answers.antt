use Rattle.std.proofs.Common.{◌≡◌, ◌∙◌, ◌<◌, [], None, All, List, ap, map, subst, sym}
use Rattle.std.proofs.lemmas.Result.{IfOk-weaker}
use Rattle.dwc_native.specs.LabelRanges.{label_ranges}
use Rattle.dwc_native.specs.Placed.{NativeRange}
use Rattle.dwc_expr.specs.declared.ranges.cached_range.CachedValueLabelRange.{CachedValueLabelRange}
use Rattle.dwc_expr.specs.declared.ranges.code_range.CodeRange.{CodeRange}
use Rattle.dwc_expr.specs.CodeRanges.{code_range_view}
use Rattle.dwc_expr.specs.JoinedScopes.{AreApart}
use Rattle.dwc_expr.specs.LabelRanges.{bounds_of}
use Rattle.dwc_isa.proofs.ListEnds.{all-seen}
use Rattle.dwc_expr.proofs.ScopeLaws.{apart-are}
use Rattle.dwc_expr.proofs.ranges.scope.joined_without_places.Goals as goal

pub are_apart-requires : goal.are_apart-requires
are_apart-requires c = subst (λ (rs : List CachedValueLabelRange). All (λ (r : CachedValueLabelRange). r.start < r.end) rs) (sym c.deref.ensures.value) c.requires.nonempty

pub returns-then-are_apart-clause-joined : goal.returns-then-are_apart-clause-joined
returns-then-are_apart-clause-joined c = apart-are (map bounds_of c.args.scope.items) (subst (λ (rs : List CachedValueLabelRange). AreApart (map bounds_of rs)) c.deref.ensures.value (c.are_apart.ensures c.if-are_apart.true))

pub joined_scope-requires : goal.joined_scope-requires
joined_scope-requires c =
    let scope = c.args.scope.items in
    let code : map code_range_view c.deref-3.result.now ≡ map bounds_of scope = ap (map code_range_view) c.deref-3.ensures.value ∙ c.in_ok-code.ensures ∙ ap (map bounds_of) c.deref-2.ensures.value in
    all-seen (λ (r : NativeRange). r.start < r.end) bounds_of code_range_view scope c.deref-3.result.now code c.requires.nonempty

pub returns-clause-joined : goal.returns-clause-joined
returns-clause-joined c =
    let scope = c.args.scope.items in
    let code : map code_range_view c.deref-3.result.now ≡ map bounds_of scope = ap (map code_range_view) c.deref-3.ensures.value ∙ c.in_ok-code.ensures ∙ ap (map bounds_of) c.deref-2.ensures.value in
    IfOk-weaker c.without_places.result (λ out. map bounds_of out.items ≡ map code_range_view c.deref-4.result.now) (λ out. map bounds_of out.items ≡ label_ranges None [] (map bounds_of scope))
    (λ out same. same ∙ ap (map code_range_view) c.deref-4.ensures.value ∙ c.in_ok-joined.ensures.joined ∙ ap (label_ranges None []) code) c.without_places.ensures.bounds

pub returns-clause-low : goal.returns-clause-low
returns-clause-low c = λ low.
    let scope = c.args.scope.items in
    let code : map code_range_view c.deref-3.result.now ≡ map bounds_of scope = ap (map code_range_view) c.deref-3.ensures.value ∙ c.in_ok-code.ensures ∙ ap (map bounds_of) c.deref-2.ensures.value in
    let all : All (λ (r : CodeRange). r.end < 4294967296) c.in_ok-joined.joined.items = c.in_ok-joined.ensures.low (all-seen (λ (r : NativeRange). r.end < 4294967296) bounds_of code_range_view scope c.deref-3.result.now code low) in
    IfOk-weaker c.without_places.result (λ out. map bounds_of out.items ≡ map code_range_view c.deref-4.result.now) (λ out. All (λ r. r.end < 4294967296) out.items)
    (λ out same. all-seen (λ (r : NativeRange). r.end < 4294967296) code_range_view bounds_of c.in_ok-joined.joined.items out.items (same ∙ ap (map code_range_view) c.deref-4.ensures.value) all) c.without_places.ensures.bounds
