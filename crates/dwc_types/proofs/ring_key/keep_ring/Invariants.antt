use Rattle.std.proofs.Common.{◌≡◌, ◌≤◌, ◌++◌, ℕ, List, drop, length, take}
use Rattle.dwc_rules.specs.Clones.{UnitSource}
use Rattle.dwc_source.specs.declared.source.CloneSource.{CloneSource}
use Rattle.dwc_types.specs.KeyedTypes.{HasCores, NamesAround, turned_name}
use Rattle.dwc_types.specs.TypeRings.{last_type_at, spelt_of}
use Rattle.dwc_types.proofs.RingWalkLaws.{IsTurning}
use Rattle.dwc_types.proofs.ring_key.keep_ring.Given as goal

-- what is passed of the turn, which type is in front, and that the keys are known
abbrev pub invariant-loop-i : goal.invariant-loop-i
invariant-loop-i l = record {
  small : l.passed ≤ l.i;
  turning : IsTurning l.ring l.i l.passed;
  front : l.but ≡ last_type_at 0 (drop l.i l.ring ++ take l.i l.ring);
  keys : (source : CloneSource) (s : UnitSource) (texts : List (List ℕ)) (before : ℕ → List ℕ) (count : ℕ) → HasCores source s texts before count l.fn.keys l.first (length l.ring) (turned_name (spelt_of l.ring)) → NamesAround source s l.consts l.ring
      → HasCores source s texts before count l.keys l.first (length l.ring) (turned_name (spelt_of l.ring));
}
