use Rattle.std.proofs.Common.{ℕ, List, ◌≤◌}
use Rattle.dwc_rules.specs.Clones.{UnitSource}
use Rattle.dwc_source.specs.declared.source.CloneSource.{CloneSource}
use Rattle.dwc_types.specs.KnownNames.{AreOwnNames, NamesRing}
use Rattle.dwc_types.proofs.RingWalkLaws.{IsTurning}
use Rattle.dwc_types.proofs.type_ring.note_ring.Given as goal

-- what is passed of the turn, and that the names are known
abbrev pub invariant-loop-i : goal.invariant-loop-i
invariant-loop-i l = record {
  small : l.passed ≤ l.i;
  turning : IsTurning l.ring l.i l.passed;
  names : (source : CloneSource) (s : UnitSource) (texts : List (List ℕ)) → NamesRing source s texts l.ring l.name → AreOwnNames source s texts l.fn.names → AreOwnNames source s texts l.names;
}
