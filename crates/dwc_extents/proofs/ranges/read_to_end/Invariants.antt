use Rattle.std.proofs.Common.{◌≡◌, length}
use Rattle.dwc_extents.proofs.ranges.read_to_end.Given as goal

-- what is left ends as the list does
abbrev pub invariant-loop : goal.invariant-loop
invariant-loop l = l.list.fault ≡ l.fn.list.fault

abbrev pub decreases-loop : goal.decreases-loop
decreases-loop l = length l.list.items
