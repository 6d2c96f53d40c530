use Rattle.std.proofs.Common.{◌≡◌, drop, map}
use Rattle.dwc_output.specs.FrameSections.{description_bytes}
use Rattle.dwc_isa.specs.CallFrames.{cie_view}
use Rattle.dwc_frames.specs.Frames.{description_at, function_view}
use Rattle.dwc_section.proofs.WritesLaws.{whole}
use Rattle.dwc_frames.proofs.frame_section.write_functions.Given as goal

-- what is there, with the entries that are left, is the whole
abbrev pub invariant-loop-i : goal.invariant-loop-i
invariant-loop-i l =
    whole (description_bytes l.initial.frames.order l.size (cie_view l.cie)) (description_at l.size) (drop l.i (map function_view l.functions)) l.frames
    ≡ whole (description_bytes l.initial.frames.order l.size (cie_view l.cie)) (description_at l.size) (map function_view l.functions) l.initial.frames
