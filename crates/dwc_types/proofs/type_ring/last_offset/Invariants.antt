use Rattle.std.proofs.Common.{◌≡◌, drop}
use Rattle.dwc_types.specs.TypeRings.{last_type_at}
use Rattle.dwc_types.proofs.type_ring.last_offset.Given as goal

-- the last of what is left, or else the last so far, is the last of all
abbrev pub invariant-loop-i : goal.invariant-loop-i
invariant-loop-i l = last_type_at l.last (drop l.i l.types) ≡ last_type_at l.fn.other l.types
