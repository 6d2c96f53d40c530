use Rattle.std.proofs.Common.{arith, sym}
use Rattle.dwc_kept.proofs.NumberLaws.{number-low, number-some}
use Rattle.dwc_kept.proofs.BlockLaws.{none-ends}
use Rattle.dwc_kept.proofs.blocks.number_between.Goals as goal

pub overflow_cast-result : goal.overflow_cast-result
overflow_cast-result c = omega (arith, number-low c.args.entries.now c.requires.rising c.loop-place.place (omega (arith, c.loop-place-test.true, c.requires.high)), c.if-entries-place.true, c.ranges.offset.fits)

pub returns-then-entries-place : goal.returns-then-entries-place
returns-then-entries-place c = sym (number-some c.args.entries.now c.requires.rising c.args.offset c.loop-place.place (omega (arith, c.loop-place-test.true, c.requires.high)) c.if-entries-place.true)

pub returns : goal.returns
returns c = sym (none-ends c.args.entries.now c.args.offset c.args.first c.args.end c.loop-place.place c.loop-place.invariant (omega (arith, c.loop-place-test.false)) c.requires.between)
