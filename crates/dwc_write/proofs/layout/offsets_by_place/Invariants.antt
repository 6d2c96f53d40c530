use Rattle.std.proofs.Common.{◌≡◌, ◌≤◌, ℕ, List, map, drop, get_or, length}
use Rattle.dwc_unit.specs.FileOrders.{looked_up}
use Rattle.dwc_unit.specs.GivenUnits.{Addition}
use Rattle.dwc_write.specs.Layouts.{offset_among}
use Rattle.dwc_write.proofs.layout.offsets_by_place.Given as goal

-- what was found is what stands among the last entries
abbrev pub invariant-loop-k : goal.invariant-loop-k
invariant-loop-k l = record {
  inside : l.k ≤ length l.order;
  size : length l.found.items ≡ l.count;
  found : (added : List Addition) → (place : ℕ) → get_or l.found.items place 0 ≡ offset_among place (map (looked_up added) (drop l.k l.order)) (drop l.k l.offsets);
}

abbrev pub decreases-loop-k : goal.decreases-loop-k
decreases-loop-k l = l.k
