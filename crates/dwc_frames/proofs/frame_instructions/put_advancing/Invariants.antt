use Rattle.std.proofs.Common.{◌≡◌, ℕ, ◌++◌, drop, map}
use Rattle.dwc_output.specs.FrameSections.{advancing_numbers}
use Rattle.dwc_isa.specs.CallFrames.{cie_view}
use Rattle.dwc_frames.specs.Frames.{advancing_view, numbers_bytes}
use Rattle.dwc_frames.proofs.frame_instructions.put_advancing.Given as goal

-- what is there, and what the instructions that are left will put
abbrev pub invariant-loop-i : goal.invariant-loop-i
invariant-loop-i l = (size : ℕ) →
    l.out.items ++ numbers_bytes l.order size (advancing_numbers (cie_view l.cie) l.before (map advancing_view (drop l.i l.ops)))
    ≡ l.initial.out.items ++ numbers_bytes l.order size (advancing_numbers (cie_view l.cie) 0 (map advancing_view l.ops))
