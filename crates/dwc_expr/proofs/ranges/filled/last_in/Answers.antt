use Rattle.std.proofs.Common.{arith}
use Rattle.dwc_expr.specs.CodeRanges.{code_range_view}
use Rattle.dwc_expr.proofs.FilledLaws.{gap, placed-go, reached-go, filled-all}
use Rattle.dwc_expr.proofs.ranges.filled.last_in.Goals as goal

pub returns-then-piece-reached-clause-filled : goal.returns-then-piece-reached-clause-filled
returns-then-piece-reached-clause-filled c = gap c.args.pieces.now c.requires.flat (code_range_view c.args.range) c.loop-place.reached c.loop-place.place c.loop-place.invariant.from c.loop-place.invariant.short c.loop-place.invariant.passed (λ inside. c.if-piece-reached.true)

pub returns-then-reached-range-clause-filled : goal.returns-then-reached-range-clause-filled
returns-then-reached-range-clause-filled c =
    filled-all c.args.pieces.now (code_range_view c.args.range) c.max-reached.result c.if-reached-range.true
    (placed-go c.args.pieces.now c.requires.flat c.args.range.start c.loop-place.reached c.max-reached.result c.loop-place.place c.loop-place-test.true c.if-piece-reached.false c.max-reached.ensures c.loop-place.invariant.placed)

pub loop-place-preserved : goal.loop-place-preserved
loop-place-preserved c = record {
  from = omega (arith, c.loop-place.invariant.from, c.max-reached.ensures);
  short = c.if-reached-range.false;
  placed = placed-go c.args.pieces.now c.requires.flat c.args.range.start c.loop-place.reached c.max-reached.result c.loop-place.place c.loop-place-test.true c.if-piece-reached.false c.max-reached.ensures c.loop-place.invariant.placed;
  passed = reached-go c.args.pieces.now c.loop-place.reached c.max-reached.result c.loop-place.place c.loop-place-test.true c.max-reached.ensures c.loop-place.invariant.passed;
}

pub returns-clause-filled : goal.returns-clause-filled
returns-clause-filled c = gap c.args.pieces.now c.requires.flat (code_range_view c.args.range) c.loop-place.reached c.loop-place.place c.loop-place.invariant.from c.loop-place.invariant.short c.loop-place.invariant.passed (λ inside. absurd (omega (arith, inside, c.loop-place-test.false)))
