use Rattle.dwc_types.specs.TypeRings.{IsPath}
use Rattle.dwc_types.proofs.type_ring.ring_at.Given as goal

-- the types up to the next one were followed
abbrev pub invariant-loop : goal.invariant-loop
invariant-loop l = IsPath l.types l.own l.own l.ring.items l.next
