use Rattle.std.proofs.Common.{◌≡◌, ◌<◌, [], None, map, All, AllPairs, subst, sym, rules}
use Rattle.std.proofs.lemmas.List.Sorted.{All-permutation, answers_always}
use Rattle.std.proofs.lemmas.Result.{IfOk-weaker}
use Rattle.std.specs.List.Sorted.{IsPermutation}
use Rattle.dwc_native.specs.LabelRanges.{label_ranges}
use Rattle.dwc_expr.specs.declared.ranges.code_range.CodeRange.{CodeRange}
use Rattle.dwc_expr.specs.CodeRanges.{code_range_view}
use Rattle.dwc_expr.specs.JoinedScopes.{IsInOrder, AreJoined}
use Rattle.dwc_expr.proofs.CodeLaws.{key_of, sorted-in-order, scope-joined, scope-low}
use Rattle.dwc_expr.proofs.ranges.scope.joined_scope.Goals as goal

pub joined-requires-clause-nonempty : goal.joined-requires-clause-nonempty
joined-requires-clause-nonempty c =
    let sorted = c.sort_unstable_by_key.new.self.items in
    let moved = subst (λ xs. IsPermutation xs sorted) c.in_ok-sorted.ensures.items c.sort_unstable_by_key.ensures.permutation in
    subst (All (λ (r : CodeRange). r.start < r.end)) (sym c.deref.ensures.value) (All-permutation (λ (r : CodeRange). r.start < r.end) c.args.scope.now sorted moved c.requires)

pub joined-requires-clause-order : goal.joined-requires-clause-order
joined-requires-clause-order c =
    subst (λ xs. AllPairs IsInOrder (map code_range_view xs)) (sym c.deref.ensures.value)
    (sorted-in-order c.sort_unstable_by_key.new.self.items (c.sort_unstable_by_key.ensures.sorted key_of (answers_always _ _ _ (λ f a r g h. search rules))))

pub returns-clause-joined : goal.returns-clause-joined
returns-clause-joined c =
    let scope = c.args.scope.now in
    let sorted = c.sort_unstable_by_key.new.self.items in
    let moved = subst (λ xs. IsPermutation xs sorted) c.in_ok-sorted.ensures.items c.sort_unstable_by_key.ensures.permutation in
    IfOk-weaker c.joined.result (λ out. AreJoined (map code_range_view c.deref.result.now) (map code_range_view out.items)) (λ out. map code_range_view out.items ≡ label_ranges None [] (map code_range_view scope))
    (λ out joined. scope-joined scope sorted out.items moved (subst (λ xs. AreJoined (map code_range_view xs) (map code_range_view out.items)) c.deref.ensures.value joined)) c.joined.ensures

pub returns-clause-low : goal.returns-clause-low
returns-clause-low c =
    let scope = c.args.scope.now in
    let sorted = c.sort_unstable_by_key.new.self.items in
    let moved = subst (λ xs. IsPermutation xs sorted) c.in_ok-sorted.ensures.items c.sort_unstable_by_key.ensures.permutation in
    λ low.
    IfOk-weaker c.joined.result (λ out. AreJoined (map code_range_view c.deref.result.now) (map code_range_view out.items)) (λ out. All (λ (r : CodeRange). r.end < 4294967296) out.items)
    (λ out joined. scope-low 4294967296 scope sorted out.items moved (subst (λ xs. AreJoined (map code_range_view xs) (map code_range_view out.items)) c.deref.ensures.value joined) low) c.joined.ensures
