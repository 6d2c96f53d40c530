use Rattle.std.proofs.Common.{◌≡◌, ◌∙◌, map, sym, true}
use Rattle.dwc_native.specs.Placed.{NativeRange, is_number}
use Rattle.dwc_isa.specs.ValueLabels.{range_view}
use Rattle.dwc_expr.specs.CodeRanges.{code_range_view}
use Rattle.dwc_expr.specs.LabelRanges.{bounds_of}
use Rattle.dwc_expr.proofs.PieceLaws.{end-later}
use Rattle.dwc_expr.proofs.CutWalkLaws.{IsAt, seen-at, passed-here, some-here, all-passed-go}
use Rattle.dwc_expr.proofs.FilledLaws.{own-filled, other-filled, not-filled, filled-go}
use Rattle.dwc_expr.proofs.ranges.filled.are_filled.Goals as goal

pub returns-then-not-is_own : goal.returns-then-not-is_own
returns-then-not-is_own c =
    let ps = map range_view c.args.pieces.now in
    let rs = map bounds_of c.args.ranges.now in
    let r : NativeRange = code_range_view c.bounds-range.result in
    let at : IsAt rs c.loop-i.i r = seen-at bounds_of c.args.ranges.now c.loop-i.i c.index-ranges-i.result r c.loop-i-test.true c.index-ranges-i.is c.bounds-range.ensures in
    not-filled c.args.own ps rs c.loop-i.i r at (other-filled c.args.own ps r (some-here rs c.loop-i.i r at c.requires.nonempty) (sym c.is_own.ensures ∙ c.if-not-is_own.true)) c.loop-i.invariant.filled

pub last_in-requires-clause-some : goal.last_in-requires-clause-some
last_in-requires-clause-some c =
    let r : NativeRange = code_range_view c.bounds-range.result in
    some-here (map bounds_of c.args.ranges.now) c.loop-i.i r (seen-at bounds_of c.args.ranges.now c.loop-i.i c.index-ranges-i.result r c.loop-i-test.true c.index-ranges-i.is c.bounds-range.ensures) c.requires.nonempty

pub last_in-requires-clause-passed : goal.last_in-requires-clause-passed
last_in-requires-clause-passed c =
    let r : NativeRange = code_range_view c.bounds-range.result in
    passed-here c.args.own (map range_view c.args.pieces.now) (map bounds_of c.args.ranges.now) c.loop-i.i c.loop-i.next r
    (seen-at bounds_of c.args.ranges.now c.loop-i.i c.index-ranges-i.result r c.loop-i-test.true c.index-ranges-i.is c.bounds-range.ensures) c.loop-i.invariant.passed (sym c.is_own.ensures ∙ c.if-not-is_own.false)

pub returns-in_default : goal.returns-in_default
returns-in_default c =
    let ps = map range_view c.args.pieces.now in
    let rs = map bounds_of c.args.ranges.now in
    let r : NativeRange = code_range_view c.bounds-range.result in
    let at : IsAt rs c.loop-i.i r = seen-at bounds_of c.args.ranges.now c.loop-i.i c.index-ranges-i.result r c.loop-i-test.true c.index-ranges-i.is c.bounds-range.ensures in
    not-filled c.args.own ps rs c.loop-i.i r at (own-filled c.args.own ps r (sym c.is_own.ensures ∙ c.if-not-is_own.false) ∙ sym c.in_default.ensures.filled) c.loop-i.invariant.filled

pub loop-i-preserved : goal.loop-i-preserved
loop-i-preserved c =
    let ps = map range_view c.args.pieces.now in
    let rs = map bounds_of c.args.ranges.now in
    let r : NativeRange = code_range_view c.bounds-range.result in
    let at : IsAt rs c.loop-i.i r = seen-at bounds_of c.args.ranges.now c.loop-i.i c.index-ranges-i.result r c.loop-i-test.true c.index-ranges-i.is c.bounds-range.ensures in
    let mine : is_number c.args.own r.function ≡ true = sym c.is_own.ensures ∙ c.if-not-is_own.false in
    record {
      filled = filled-go c.args.own ps rs c.loop-i.i r at (own-filled c.args.own ps r mine ∙ sym c.in-Some.ensures.filled) c.loop-i.invariant.filled;
      inside = c.in-Some.ensures.inside;
      passed = all-passed-go c.args.own ps rs c.loop-i.i c.loop-i.next c.in-Some.last r c.requires.ordered at (λ byte le h. end-later ps r.end byte c.in-Some.last (le mine) c.in-Some.ensures.passed) c.loop-i.invariant.passed;
    }
