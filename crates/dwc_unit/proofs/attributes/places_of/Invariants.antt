use Rattle.std.proofs.Common.{◌≡◌, ℕ, ◌≤◌, drop, length, nat_cmp}
use Rattle.std.specs.BTreeMap.{get}
use Rattle.dwc_unit.specs.AttributePlaces.{place_from}
use Rattle.dwc_unit.proofs.attributes.places_of.Given as goal

-- the index has the places of the attributes from k on
abbrev pub invariant-loop-k : goal.invariant-loop-k
invariant-loop-k l = ((name : ℕ) → get nat_cmp l.places name ≡ place_from l.k (drop l.k l.attributes) name) × (l.k ≤ length l.attributes)

abbrev pub decreases-loop-k : goal.decreases-loop-k
decreases-loop-k l = l.k
