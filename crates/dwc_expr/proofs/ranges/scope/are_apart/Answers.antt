use Rattle.std.proofs.Common.{◌<◌, ◌-◌, arith, map}
use Rattle.std.proofs.lemmas.List.Elements.{All-map}
use Rattle.dwc_native.specs.Placed.{NativeRange}
use Rattle.dwc_expr.specs.CodeRanges.{code_range_view}
use Rattle.dwc_expr.specs.LabelRanges.{bounds_of}
use Rattle.dwc_expr.proofs.CutWalkLaws.{seen-at}
use Rattle.dwc_expr.proofs.ScopeLaws.{apart-first, apart-next}
use Rattle.dwc_expr.proofs.ranges.scope.are_apart.Goals as goal

pub loop-i-init : goal.loop-i-init
loop-i-init c = apart-first (map bounds_of c.args.ranges.now) (All-map (λ (r : NativeRange). r.start < r.end) bounds_of c.args.ranges.now c.requires)

pub loop-i-preserved : goal.loop-i-preserved
loop-i-preserved c =
    let xs = c.args.ranges.now in
    let i = c.loop-i.i in
    let l = code_range_view c.bounds.result in
    let r = code_range_view c.bounds-in-loop-i.result in
    apart-next (map bounds_of xs) i l r c.loop-i.auto.i (seen-at bounds_of xs (i - 1) c.index-ranges-i.result l (omega (arith, c.loop-i.auto.i, c.loop-i-test.true)) c.index-ranges-i.is c.bounds.ensures)
    (seen-at bounds_of xs i c.index-ranges-i-in-loop-i.result r c.loop-i-test.true c.index-ranges-i-in-loop-i.is c.bounds-in-loop-i.ensures) (All-map (λ (r : NativeRange). r.start < r.end) bounds_of xs c.requires)
    (c.is_apart.ensures c.if-not-is_apart.false) c.loop-i.invariant
