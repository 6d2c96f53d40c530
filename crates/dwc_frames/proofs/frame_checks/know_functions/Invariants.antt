use Rattle.std.proofs.Common.{ℕ, ◌<◌, get_or, All}
use Rattle.dwc_isa.specs.declared.unwind_info.CfaUnwindInfo.{CfaUnwindInfo}
use Rattle.dwc_isa.specs.CallFrames.{instruction_view}
use Rattle.dwc_frames.specs.Frames.{FitsInstruction}
use Rattle.dwc_frames.proofs.frame_checks.know_functions.Given as goal

-- those that were looked at
abbrev pub invariant-loop-i : goal.invariant-loop-i
invariant-loop-i l = (k : ℕ) (d : ℕ × CfaUnwindInfo) → k < l.i → All (λ op. FitsInstruction (instruction_view op.1)) (get_or l.functions k d).1.ops.items
