use Rattle.dwc_kept.proofs.BlockLaws.{FirstsSoFar}
use Rattle.dwc_kept.proofs.blocks.firsts_of_blocks.Given as goal

-- the blocks of the entries so far have their first ones
abbrev pub invariant-loop-i : goal.invariant-loop-i
invariant-loop-i l = FirstsSoFar l.entries l.i l.firsts.items
