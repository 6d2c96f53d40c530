use Rattle.dwc_kept.proofs.BlockLaws.{IsNoneFrom}
use Rattle.dwc_kept.proofs.blocks.number_between.Given as goal

-- no entry so far stands at the offset
abbrev pub invariant-loop-place : goal.invariant-loop-place
invariant-loop-place l = IsNoneFrom l.entries l.offset l.first l.place
