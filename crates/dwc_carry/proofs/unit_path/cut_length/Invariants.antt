use Rattle.std.proofs.Common.{◌≡◌, ◌+◌, ◌≤◌, length, take}
use Rattle.std.specs.List.{suffix_len}
use Rattle.dwc_carried.specs.UnitPaths.{is_slash}
use Rattle.dwc_carry.proofs.unit_path.cut_length.Given as goal

abbrev pub invariant-loop-end : goal.invariant-loop-end
invariant-loop-end l = (l.end ≤ length l.path) × (l.end + suffix_len is_slash l.path ≡ length l.path + suffix_len is_slash (take l.end l.path))

abbrev pub decreases-loop-end : goal.decreases-loop-end
decreases-loop-end l = l.end
