use Rattle.std.proofs.Common.{◌≡◌, ◌++◌, drop}
use Rattle.dwc_extents.specs.NativeExtents.{ranges_of_offsets}
use Rattle.dwc_extents.proofs.ranges.translated_offsets.Given as goal

-- what was translated, with what is left, is the whole
abbrev pub invariant-loop-begin : goal.invariant-loop-begin
invariant-loop-begin l = l.ranges.items ++ ranges_of_offsets l.transform (drop l.begin-index l.intervals) ≡ ranges_of_offsets l.transform l.intervals
