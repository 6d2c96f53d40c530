use Rattle.std.proofs.Common.{◌≡◌, drop, map}
use Rattle.std.specs.List.{list_all}
use Rattle.dwc_native.specs.CallFrames.{has_factored_offset}
use Rattle.dwc_frames.specs.Frames.{advancing_view}
use Rattle.dwc_frames.proofs.frame_checks.has_data_offsets.Given as goal

-- what is left answers what all answer
abbrev pub invariant-loop-i : goal.invariant-loop-i
invariant-loop-i l = list_all (λ i. has_factored_offset l.cie.data_factor i.1) (map advancing_view (drop l.i l.ops)) ≡ list_all (λ i. has_factored_offset l.cie.data_factor i.1) (map advancing_view l.ops)
