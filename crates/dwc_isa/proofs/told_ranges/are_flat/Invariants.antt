use Rattle.std.proofs.Common.{map, take}
use Rattle.dwc_isa.specs.ValueLabels.{range_view}
use Rattle.dwc_isa.specs.FlatRanges.{IsFlatTo}
use Rattle.dwc_isa.proofs.told_ranges.are_flat.Given as goal

-- the ranges so far are flat, and end at or below a byte
abbrev pub invariant-loop-i : goal.invariant-loop-i
invariant-loop-i l = IsFlatTo l.end (map range_view (take l.i l.ranges))
