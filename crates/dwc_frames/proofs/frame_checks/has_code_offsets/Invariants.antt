use Rattle.std.proofs.Common.{◌≡◌, drop, map}
use Rattle.dwc_native.specs.FrameRefusals.{has_code_offsets}
use Rattle.dwc_frames.specs.Frames.{advancing_view}
use Rattle.dwc_frames.proofs.frame_checks.has_code_offsets.Given as goal

-- what is left answers what all answer
abbrev pub invariant-loop-i : goal.invariant-loop-i
invariant-loop-i l = has_code_offsets l.factor l.before (map advancing_view (drop l.i l.ops)) ≡ has_code_offsets l.factor 0 (map advancing_view l.ops)
