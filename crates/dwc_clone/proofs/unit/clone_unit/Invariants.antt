use Rattle.std.proofs.Common.{◌≡◌, ℕ, ◌-◌, ◌<◌, ◌≤◌, [], Option, drop, length, filter_map}
use Rattle.std.specs.Prelude.{reverse}
use Rattle.std.specs.List.{All}
use Rattle.dwc_dwarf.specs.Entries.{entries as entries_of}
use Rattle.dwc_dwarf.specs.Lists.{list_source}
use Rattle.dwc_rules.specs.RangeAttributes.{begun_function}
use Rattle.dwc_rules.specs.Clones.{UnitSource}
use Rattle.dwc_rules.specs.Drafts.{Role}
use Rattle.dwc_dwarf.specs.ReadValues.{IsReadEntry}
use Rattle.dwc_unit.specs.GivenUnits.{IsReserved}
use Rattle.dwc_clone.specs.BuiltUnits.{AreRoles}
use Rattle.dwc_source.specs.Sources.{AreEmitted, IsSource}
use Rattle.dwc_clone.specs.ClonedUnits.{picked, placed_in, AreClonable}
use Rattle.dwc_source.specs.CompiledModules.{HasFrames}
use Rattle.dwc_extents.specs.Lineages.{AreWalked}
use Rattle.dwc_source.specs.KnownTexts.{KnowsTexts}
use Rattle.dwc_clone.specs.OpenWrappers.{CanCloseAll, IsOther, reserved_more}
use Rattle.dwc_clone.specs.ClonedEntries.{AreKnown}
use Rattle.dwc_types.specs.TypeSteps.{AreNames}
use Rattle.dwc_clone.proofs.BegunNumberLaws.{AreNotedSoFar, noted_beside}
use Rattle.dwc_clone.proofs.UnitSteps.{AreAmong}
use Rattle.dwc_clone.proofs.unit.clone_unit.Given as goal

-- the kept entries that are cloned so far, and those that are picked of the entries to come, are all; the numbers of those are reserved
abbrev pub invariant-loop-next : goal.invariant-loop-next
invariant-loop-next g l =
    let registers = (goal.TargetIsa-dyn g l.isa.now).dwarf_registers l.isa.now.1 in
    record {
      parents : AreKnown l.walk.parents.items l.unit;
      first : l.next ≡ 0 → l.walk.parents.items ≡ [];
      reserved : (k : ℕ) → l.next ≤ k → k < length l.kept → (0 < k → IsReserved k l.unit) × IsOther k (reverse l.walk.opened.items);
      wrappers : CanCloseAll (length l.unit.places) l.unit (reverse l.walk.opened.items);
      plain : AreNames l.walk.names;
      texts : KnowsTexts l.source.unit.now.sections l.strings l.known;
      read : All IsReadEntry l.entries.left.items;
      noted : AreNotedSoFar (filter_map (begun_function (list_source l.source.unit.now.sections l.source.unit.now.header) l.source.transform.now) (picked (drop l.next l.kept) l.entries.left.items))
          (noted_beside l.fn.translated (filter_map (begun_function (list_source l.source.unit.now.sections l.source.unit.now.header) l.source.transform.now) (picked l.kept (entries_of l.source.unit.now.sections l.source.unit.now.header).items))) l.translated;
      fault : l.entries.left.fault ≡ (entries_of l.source.unit.now.sections l.source.unit.now.header).fault;
      cloned : (number : ℕ) (s : UnitSource) (roles : ℕ → Role → Option ℕ) → IsSource l.source number s → HasFrames l.source.module l.source.transform.now → AreClonable (picked l.kept (entries_of l.source.unit.now.sections l.source.unit.now.header).items)
          → AreEmitted l.source s number (picked l.kept (entries_of l.source.unit.now.sections l.source.unit.now.header).items)
          → AreWalked s.entries (placed_in l.source.unit.now.header.offset (picked l.kept (entries_of l.source.unit.now.sections l.source.unit.now.header).items))
          → AreRoles registers l.source s roles (length (reserved_more (length l.kept - 1) l.fn.begun).places) (placed_in l.source.unit.now.header.offset (picked l.kept (entries_of l.source.unit.now.sections l.source.unit.now.header).items))
          → AreAmong registers l.source number s roles (picked l.kept (entries_of l.source.unit.now.sections l.source.unit.now.header).items) (picked (drop l.next l.kept) l.entries.left.items) l.next l.fn.strings l.strings l.fn.begun l.unit l.walk.parents.items (reverse l.walk.opened.items) l.walk.lineage l.walk.contexts l.walk.names;
    }

abbrev pub decreases-loop-next : goal.decreases-loop-next
decreases-loop-next g l = length l.entries.left.items
