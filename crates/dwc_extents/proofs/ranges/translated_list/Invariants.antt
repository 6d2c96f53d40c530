use Rattle.std.proofs.Common.{length}
use Rattle.dwc_extents.proofs.NativeRangeLaws.{NativeSoFar}
use Rattle.dwc_extents.proofs.ranges.translated_list.Given as goal

-- what was translated, with what is left, makes the whole
abbrev pub invariant-loop-begin : goal.invariant-loop-begin
invariant-loop-begin l = NativeSoFar l.transform l.fn.list l.list l.listed l.ranges.items

abbrev pub decreases-loop-begin : goal.decreases-loop-begin
decreases-loop-begin l = length l.list.items
