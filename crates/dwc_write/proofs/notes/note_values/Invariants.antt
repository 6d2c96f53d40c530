use Rattle.std.proofs.Common.{◌≡◌, ◌+◌, ◌++◌, ◌≤◌, drop, length}
use Rattle.std.specs.Prelude.{◌&&◌}
use Rattle.std.specs.List.{flat_map}
use Rattle.dwc_base.specs.declared.records.Endian.{Endian}
use Rattle.dwc_unit.specs.SpelledUnits.{attribute_bytes}
use Rattle.dwc_unit.specs.GivenUnits.{no_places, written_attributes}
use Rattle.dwc_unit.specs.Lists.{no_lists, nowhere}
use Rattle.dwc_unit.specs.declared.lists.ListKind.TheVariants.{Locations, Ranges}
use Rattle.dwc_write.specs.Noted.{are_free}
use Rattle.dwc_unit.specs.UsedTexts.{texts_of_attributes}
use Rattle.dwc_section.specs.Writers.{most_bytes}
use Rattle.dwc_write.proofs.notes.note_values.Given as goal

-- what is noted so far, with what is to be noted of the rest, is that of all, and the values that are left end where all end
abbrev pub invariant-loop-i : goal.invariant-loop-i
invariant-loop-i l = record {
  texts : l.texts.items ++ texts_of_attributes (drop l.i l.attributes) ≡ l.initial.texts.items ++ texts_of_attributes l.attributes;
  ranges : (are_free Ranges (drop l.i l.attributes) && l.free.of_ranges) ≡ are_free Ranges l.attributes;
  locations : (are_free Locations (drop l.i l.attributes) && l.free.of_locations) ≡ are_free Locations l.attributes;
  short : l.behind ≤ most_bytes;
  rest : (order : Endian) → l.behind + length (flat_map (attribute_bytes order l.size) (written_attributes nowhere no_places no_lists (drop l.i l.attributes))) ≡ l.place + length (flat_map (attribute_bytes order l.size) (written_attributes nowhere no_places no_lists l.attributes));
}
