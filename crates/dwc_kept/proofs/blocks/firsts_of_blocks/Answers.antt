use Rattle.std.proofs.Common.{arith, ◌/◌}
use Rattle.dwc_kept.specs.GraphEntries.{entry}
use Rattle.dwc_kept.proofs.BlockLaws.{so_far-more, so_far-ends}
use Rattle.dwc_kept.proofs.blocks.firsts_of_blocks.Goals as goal

pub loop-i-preserved : goal.loop-i-preserved
loop-i-preserved c =
    let es = c.args.entries.now in
    let offset = (entry es c.loop-i.i).offset in
    so_far-more es c.requires.rising c.loop-i.i (offset / 32) c.loop-i.firsts.items _ (omega (arith, c.loop-i-test.true)) (omega arith) (omega arith) c.loop-i.invariant c.in_ok-put_firsts.ensures

pub returns : goal.returns
returns c = so_far-ends c.args.entries.now c.loop-i.i c.loop-i.firsts.items (omega (arith, c.loop-i-test.false)) c.loop-i.invariant
