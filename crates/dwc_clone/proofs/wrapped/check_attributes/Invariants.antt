use Rattle.std.proofs.Common.{◌≡◌, ℕ, drop, map}
use Rattle.dwc_rules.specs.Clones.{UnitSource}
use Rattle.dwc_read.specs.ValuesSeen.{attribute_view}
use Rattle.dwc_read.specs.EntriesSeen.{entry_view}
use Rattle.dwc_source.specs.Sources.{IsSource, placed_entry}
use Rattle.dwc_source.specs.KnownTexts.{KnowsTexts}
use Rattle.dwc_source.specs.MadeValues.{Grows}
use Rattle.dwc_extents.specs.CodeSources.{GivesInForce}
use Rattle.dwc_clone.proofs.CheckedAttributes.{AreReadSoFar}
use Rattle.dwc_clone.proofs.wrapped.check_attributes.Given as goal

-- what is refused of the attributes that are left is what is refused of all
abbrev pub invariant-loop-attribute : goal.invariant-loop-attribute
invariant-loop-attribute g l =
    let registers = (goal.TargetIsa-dyn g l.isa.now).dwarf_registers l.isa.now.1 in
    record {
      number : l.number ≡ l.attribute-index;
      texts : KnowsTexts l.source.unit.now.sections l.strings l.known;
      grows : Grows l.fn.strings l.strings;
      read : (number : ℕ) (s : UnitSource) → IsSource l.source number s → GivesInForce l.source s (placed_entry l.source (entry_view l.entry)) l.lineage
          → AreReadSoFar registers l.source s (placed_entry l.source (entry_view l.entry)) l.fn.strings l.strings l.number (drop l.attribute-index (map attribute_view l.attributes));
    }
