use Rattle.std.proofs.Common.{length}
use Rattle.dwc_extents.proofs.ReadExtentLaws.{ReadSoFar}
use Rattle.dwc_extents.proofs.wasm_intervals.intervals_left.Given as goal

-- what was found, with what is left, is the whole
abbrev pub invariant-loop-begin : goal.invariant-loop-begin
invariant-loop-begin l = ReadSoFar l.fn.list l.list l.intervals.items

abbrev pub decreases-loop-begin : goal.decreases-loop-begin
decreases-loop-begin l = length l.list.items
