-- The fields of a line table of version 5 that say where the names of its directories and files stand. (DWARF 5, sections 6.2.4 and 6.2.4.1.)
use Rattle.std.specs.Prelude.{ℕ, ◌-◌, List, [], ◌∷◌, ◌++◌, true, false, nat_lt, option_map, option_to_list, Result, Ok}
use Rattle.std.specs.List.{flat_map}
use Rattle.dwc_base.specs.declared.section_name.SectionName.TheVariants.{Line}
use Rattle.dwc_base.specs.declared.faults.Flaw.{Flaw}
use Rattle.dwc_base.specs.Reading.{Unread, Read, ◌>>=◌, bytes_at, counted_at, number_at, part_at, uleb_at}
use Rattle.dwc_base.specs.Sections.{Sections, section_from}
use Rattle.dwc_base.specs.Units.{sized_part_at}
use Rattle.dwc_dwarf.specs.Values.{Value, text_reference, encoded_value_at}
use Rattle.dwc_dwarf.specs.LineHeaders.{EntryFormat, LineSource, entry_formats_at, field_spec, line_address_size_at, line_source}
use Rattle.dwc_output.specs.FieldKinds.{Field, offset_in, section_of_text}

-- the field of a value at a place, where that is the offset of a text
abbrev pub field_of_path : ℕ → Value → List Field
field_of_path place (text_reference form n) = option_to_list (option_map (λ name. record { offset = place; size = 4; held = offset_in name n }) (section_of_text form))
field_of_path place _ = []

-- the fields of an entry of some formats
unfoldable pub entry_paths_at : LineSource → ℕ → List EntryFormat → Unread → Read (List Field)
entry_paths_at s address_size [] u = Ok ([], u)
entry_paths_at s address_size (format ∷ formats) u = do
  value ← encoded_value_at s.relocations (record { version = 5; address_size = address_size }) (field_spec format) u
  others ← entry_paths_at s address_size formats value.1
  Ok (field_of_path u.place value.0 ++ others.0, others.1)

-- those of some entries, behind their formats and their number
unfoldable pub list_paths_at : LineSource → ℕ → Unread → Read (List Field)
list_paths_at s address_size u = do
  formats ← entry_formats_at u
  count ← uleb_at formats.1
  each ← counted_at count.0 (entry_paths_at s address_size formats.0) count.1
  Ok (flat_map (λ fields. fields) each.0, each.1)

-- The fields of the names in a header; up to version 4 names stand in place.
unfoldable pub header_paths_at : LineSource → ℕ → Unread → Result (List Field) Flaw
header_paths_at s unit_size u = do
  table ← sized_part_at u
  version ← number_at 2 table.0
  elim (nat_lt version.0 5) [
    | true ↦ Ok []
    | false ↦ do
      address_size ← line_address_size_at version.0 unit_size version.1
      size ← number_at 4 address_size.1
      fields ← part_at size.0 size.1
      before ← bytes_at 5 fields.0
      opcodes ← number_at 1 before.1
      counts ← counted_at (opcodes.0 - 1) (number_at 1) opcodes.1
      directories ← list_paths_at s address_size.0 counts.1
      files ← list_paths_at s address_size.0 directories.1
      Ok (directories.0 ++ files.0)
  ]

-- the same of the line table at an offset, for a unit of an address size, whose texts by an index begin at a base
abbrev pub paths_of_line_table : Sections → ℕ → ℕ → ℕ → Result (List Field) Flaw
paths_of_line_table s address_size base offset = header_paths_at (line_source s base) address_size (section_from s Line offset)
