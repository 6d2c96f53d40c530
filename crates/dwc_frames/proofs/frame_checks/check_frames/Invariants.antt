use Rattle.std.proofs.Common.{◌≡◌, drop, map, flat_map}
use Rattle.dwc_native.specs.FrameRefusals.{description_refusals}
use Rattle.dwc_isa.specs.CallFrames.{cie_view}
use Rattle.dwc_frames.specs.Frames.{function_view}
use Rattle.dwc_frames.proofs.frame_checks.check_frames.Given as goal

-- what is refused of those that are left is what is refused of all
abbrev pub invariant-loop-i : goal.invariant-loop-i
invariant-loop-i l = flat_map (description_refusals (cie_view l.cie)) (map function_view (drop l.i l.functions)) ≡ flat_map (description_refusals (cie_view l.cie)) (map function_view l.functions)
