use Rattle.std.proofs.Common.{arith}
use Rattle.dwc_unit.proofs.AdditionLaws.{all-moved, move-more}
use Rattle.dwc_unit.proofs.additions.move_all.Goals as goal

pub loop-i-preserved : goal.loop-i-preserved
loop-i-preserved c =
    move-more c.loop-i.i c.loop-i.from c.loop-i.to c.args.from.now c.replace.result c.replace.new.dest c.index-from-i.result (omega (arith, c.loop-i-test.true, c.loop-i.invariant.room, c.requires)) c.replace.ensures.value c.loop-i.invariant

pub returns-clause-moved : goal.returns-clause-moved
returns-clause-moved c = all-moved c.loop-i.i c.loop-i.from c.loop-i.to c.args.from.now (omega (arith, c.loop-i-test.false, c.loop-i.invariant.room, c.requires)) c.loop-i.invariant
