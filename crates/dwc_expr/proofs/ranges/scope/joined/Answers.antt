use Rattle.std.proofs.Common.{[], ◌+◌, ◌<◌, map, take, drop, get_or, subst, sym}
use Rattle.std.proofs.lemmas.List.{map_more}
use Rattle.std.proofs.lemmas.List.Elements.{All-map}
use Rattle.dwc_expr.specs.CodeRanges.{code_range_view}
use Rattle.dwc_isa.proofs.ListEnds.{map-next}
use Rattle.dwc_expr.proofs.CodeLaws.{no_code}
use Rattle.dwc_expr.proofs.ScopeLaws.{IsJoining, joining-none, joining-more}
use Rattle.dwc_expr.proofs.ranges.scope.joined.Goals as goal

pub loop-range-init : goal.loop-range-init
loop-range-init c =
    let rs = map code_range_view c.args.ranges.now in
    subst (λ out. IsJoining [] rs (map code_range_view out)) (sym c.new-out.ensures.items)
    (joining-none rs (All-map (λ r. r.start < r.end) code_range_view c.args.ranges.now c.requires.nonempty) c.requires.order)

pub loop-range-preserved : goal.loop-range-preserved
loop-range-preserved c =
    let xs = c.args.ranges.now in
    let i = c.loop-range.range-index in
    let r = code_range_view (get_or xs i no_code) in
    let done = map code_range_view (take i xs) in
    let left = map code_range_view (drop (i + 1) xs) in
    let out = map code_range_view c.loop-range.out.items in
    let new = map code_range_view c.add.new.out.items in
    let now = subst (λ ls. IsJoining done ls out) (map-next code_range_view xs i no_code c.loop-range-test.true) c.loop-range.invariant in
    subst (λ ds. IsJoining ds left new) (sym (map_more code_range_view xs i no_code c.loop-range-test.true)) (joining-more r done left out new now c.in_ok-add.ensures)
