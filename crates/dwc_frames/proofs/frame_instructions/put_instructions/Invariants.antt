use Rattle.std.proofs.Common.{◌≡◌, ℕ, ◌++◌, drop, map, flat_map}
use Rattle.dwc_base.specs.declared.records.Endian.{Endian}
use Rattle.dwc_output.specs.FrameSections.{instruction_numbers}
use Rattle.dwc_isa.specs.CallFrames.{instruction_view}
use Rattle.dwc_frames.specs.Frames.{numbers_bytes}
use Rattle.dwc_frames.proofs.frame_instructions.put_instructions.Given as goal

-- what is there, and what the instructions that are left will put
abbrev pub invariant-loop-i : goal.invariant-loop-i
invariant-loop-i l = (order : Endian) (size : ℕ) →
    l.out.items ++ numbers_bytes order size (flat_map (instruction_numbers l.cie.data_factor) (map instruction_view (drop l.i l.ops)))
    ≡ l.initial.out.items ++ numbers_bytes order size (flat_map (instruction_numbers l.cie.data_factor) (map instruction_view l.ops))
