use Rattle.std.proofs.Common.{ℕ, ◌<◌, get_or}
use Rattle.dwc_isa.specs.declared.frame_op.FrameOp.{FrameOp}
use Rattle.dwc_isa.specs.CallFrames.{instruction_view}
use Rattle.dwc_frames.specs.Frames.{FitsInstruction}
use Rattle.dwc_frames.proofs.frame_checks.know_advancing.Given as goal

-- those that were looked at
abbrev pub invariant-loop-i : goal.invariant-loop-i
invariant-loop-i l = (k : ℕ) (d : ℕ × FrameOp) → k < l.i → FitsInstruction (instruction_view (get_or l.ops k d).1)
