use Rattle.std.proofs.Common.{◌≡◌, ℕ, drop, map}
use Rattle.std.specs.Prelude.{Option}
use Rattle.dwc_rules.specs.Drafts.{Goal}
use Rattle.dwc_rules.specs.Clones.{UnitSource}
use Rattle.dwc_read.specs.ValuesSeen.{attribute_view}
use Rattle.dwc_read.specs.EntriesSeen.{entry_view}
use Rattle.dwc_unit.specs.GivenUnits.{Addition, GivenUnit}
use Rattle.dwc_source.specs.Sources.{IsSource, placed_entry}
use Rattle.dwc_source.specs.KnownTexts.{KnowsTexts}
use Rattle.dwc_extents.specs.CodeSources.{GivesInForce}
use Rattle.dwc_clone.specs.ClonedEntries.{IsLast}
use Rattle.dwc_source.specs.MadeValues.{ArePlaced}
use Rattle.dwc_clone.specs.Tellings.{tell_of}
use Rattle.dwc_clone.proofs.EntryValues.{AreSetSoFar}
use Rattle.dwc_clone.proofs.entry.set_attributes.Given as goal

-- what is set so far, and what the attributes that are left are to say, make all
abbrev pub invariant-loop-attribute : goal.invariant-loop-attribute
invariant-loop-attribute g l =
    let registers = (goal.TargetIsa-dyn g l.isa.now).dwarf_registers l.isa.now.1 in
    record {
      places : l.unit.places ≡ l.fn.unit.places;
      number : l.number ≡ l.attribute-index;
      texts : KnowsTexts l.source.unit.now.sections l.strings l.known;
      set : (number : ℕ) (s : UnitSource) (goals : Goal → Option (ℕ × ℕ)) (base : GivenUnit) (e : Addition) → IsSource l.source number s → ArePlaced l.source.places.now goals → IsLast l.fn.strings l.id base e l.fn.unit → GivesInForce l.source s (placed_entry l.source (entry_view l.entry)) l.lineage
          → AreSetSoFar goals (tell_of l.telling s.entries (placed_entry l.source (entry_view l.entry))) registers l.source number s (placed_entry l.source (entry_view l.entry)) l.fn.strings l.strings base e l.unit l.number (drop l.attribute-index (map attribute_view l.attributes));
    }
