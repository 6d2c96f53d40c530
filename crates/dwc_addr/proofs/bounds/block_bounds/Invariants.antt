use Rattle.std.proofs.Common.{◌≡◌, length}
use Rattle.dwc_addr.specs.RunBounds.{AreBlockBounds}
use Rattle.dwc_addr.proofs.bounds.block_bounds.Given as goal

-- as many blocks as were passed, each with its bounds
abbrev pub invariant-loop-block : goal.invariant-loop-block
invariant-loop-block l = (length l.blocks.items ≡ l.block) × AreBlockBounds l.bounds l.blocks.items
