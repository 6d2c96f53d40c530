use Rattle.std.proofs.Common.{◌∙◌, map, refl, sym, arith}
use Rattle.dwc_native.specs.Placed.{NativeRange}
use Rattle.dwc_isa.specs.ValueLabels.{range_view}
use Rattle.dwc_expr.specs.LabelRanges.{bounds_of}
use Rattle.dwc_expr.proofs.CutWalkLaws.{IsAt, seen-at}
use Rattle.dwc_expr.proofs.PassedLaws.{first-passed, none-more}
use Rattle.dwc_expr.proofs.ranges.passed.first_needed.Goals as goal

pub loop-i-init : goal.loop-i-init
loop-i-init c = λ j d below within. absurd (omega (arith, below))

pub loop-i-preserved : goal.loop-i-preserved
loop-i-preserved c =
    let rs = map bounds_of c.args.ranges.now in
    let r : NativeRange = bounds_of c.index-ranges-i.result in
    let at : IsAt rs c.loop-i.i r = seen-at bounds_of c.args.ranges.now c.loop-i.i c.index-ranges-i.result r c.loop-i-test.true c.index-ranges-i.is refl in
    none-more c.args.own rs c.loop-i.i r at (sym c.is_own.ensures ∙ c.if-is_own.false) c.loop-i.invariant

pub returns-then-is_own-clause-passed : goal.returns-then-is_own-clause-passed
returns-then-is_own-clause-passed c =
    let rs = map bounds_of c.args.ranges.now in
    let r : NativeRange = bounds_of c.index-ranges-i.result in
    let at : IsAt rs c.loop-i.i r = seen-at bounds_of c.args.ranges.now c.loop-i.i c.index-ranges-i.result r c.loop-i-test.true c.index-ranges-i.is refl in
    first-passed c.args.own (map range_view c.args.pieces.now) rs c.loop-i.i c.first_behind.result r c.requires.ordered c.requires.nonempty at c.loop-i.invariant (sym c.is_own.ensures ∙ c.if-is_own.true) c.first_behind.ensures.passed

pub returns-clause-passed : goal.returns-clause-passed
returns-clause-passed c = λ j d from within is k e below. absurd (omega (arith, below))
