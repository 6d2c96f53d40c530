use Rattle.std.proofs.Common.{◌≡◌, ◌+◌, ◌≤◌, length, take, not}
use Rattle.std.specs.List.{suffix_len}
use Rattle.dwc_carried.specs.UnitPaths.{is_slash}
use Rattle.dwc_carry.proofs.unit_path.name_place.Given as goal

abbrev pub invariant-loop-place : goal.invariant-loop-place
invariant-loop-place l = (l.place ≤ length l.path) × (l.place + suffix_len (λ b. not (is_slash b)) l.path ≡ length l.path + suffix_len (λ b. not (is_slash b)) (take l.place l.path))

abbrev pub decreases-loop-place : goal.decreases-loop-place
decreases-loop-place l = l.place
