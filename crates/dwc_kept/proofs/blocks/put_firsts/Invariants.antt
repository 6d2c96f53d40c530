use Rattle.std.proofs.Common.{◌-◌, suc, length}
use Rattle.dwc_kept.proofs.BlockLaws.{HasFirstsSoFar}
use Rattle.dwc_kept.proofs.blocks.put_firsts.Given as goal

-- the blocks so far have the number
abbrev pub invariant-loop-firsts : goal.invariant-loop-firsts
invariant-loop-firsts l = HasFirstsSoFar l.block l.number l.fn.firsts.items l.firsts.items

abbrev pub decreases-loop-firsts : goal.decreases-loop-firsts
decreases-loop-firsts l = suc l.block - length l.firsts.items
