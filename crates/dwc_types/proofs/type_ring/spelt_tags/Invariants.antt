use Rattle.std.proofs.Common.{◌≡◌, ◌++◌, drop}
use Rattle.dwc_types.specs.TypeRings.{spelt_of}
use Rattle.dwc_types.proofs.type_ring.spelt_tags.Given as goal

-- the tags so far, and those of what is left, are those of all
abbrev pub invariant-loop-i : goal.invariant-loop-i
invariant-loop-i l = l.tags.items ++ spelt_of (drop l.i l.types) ≡ spelt_of l.types
