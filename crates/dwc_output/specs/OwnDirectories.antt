-- The compilation directory in line tables of version 5. (DWARF 5, section 6.2.4.)
use Rattle.std.specs.Prelude.{◌≡◌, ℕ, ◌-◌, ◌==◌, List, [], true, if◌then◌else◌, Option, Some, None, option_and_then, Result, Ok, All}
use Rattle.dwc_base.specs.declared.section_name.SectionName.TheVariants.{Line}
use Rattle.dwc_base.specs.declared.faults.Flaw.{Flaw}
use Rattle.dwc_base.specs.declared.constants.TheConstants.{DW_AT_comp_dir, DW_AT_stmt_list, DW_UT_compile}
use Rattle.dwc_base.specs.Reading.{Unread, ◌>>=◌, bytes_at, counted_at, number_at, part_at, uleb_at}
use Rattle.dwc_base.specs.Sections.{Sections, section_from}
use Rattle.dwc_base.specs.Units.{sized_part_at}
use Rattle.dwc_dwarf.specs.Values.{Value}
use Rattle.dwc_dwarf.specs.Entries.{attribute}
use Rattle.dwc_dwarf.specs.Texts.{text_named}
use Rattle.dwc_dwarf.specs.Indexed.{text_base, texts_of_unit}
use Rattle.dwc_dwarf.specs.LineHeaders.{LineFile, LineSource, entry_fields_at, entry_formats_at, line_address_size_at, line_source, no_fields}
use Rattle.dwc_dwarf.specs.ReadUnits.{Unit, line_offset, root}

-- the compilation directory that a table of version 5 names as number 0, looked up; an empty name where it names none
unfoldable pub own_directory_at : LineSource → ℕ → Unread → Result LineFile Flaw
own_directory_at s unit_size u = do
  table ← sized_part_at u
  version ← number_at 2 table.0
  address_size ← line_address_size_at version.0 unit_size version.1
  size ← number_at 4 address_size.1
  fields ← part_at size.0 size.1
  before ← bytes_at 5 fields.0
  opcodes ← number_at 1 before.1
  counts ← counted_at (opcodes.0 - 1) (number_at 1) opcodes.1
  formats ← entry_formats_at counts.1
  count ← uleb_at formats.1
  own ← (if count.0 == 0 then Ok (no_fields, count.1) else entry_fields_at s address_size.0 true formats.0 no_fields count.1)
  Ok own.0

-- a text, or the empty one
abbrev pub text_or_empty : Result (Option (List ℕ)) Flaw → List ℕ
text_or_empty (Ok (Some bytes)) = bytes
text_or_empty _ = []

-- the compilation directory that the root of a unit names
abbrev pub directory_named : Sections → Unit → Option Value → List ℕ
directory_named s u None = []
directory_named s u (Some v) = text_or_empty (text_named (texts_of_unit s u.header) v)

abbrev pub directory_of_root : Sections → Unit → List ℕ
directory_of_root s u = directory_named s u (option_and_then (attribute DW_AT_comp_dir) (root u))

-- A unit of version 5 whose root names a line table names there, as directory 0, the compilation directory that the root names.
abbrev pub NamesDirectory : Sections → Unit → Option ℕ → Type 0
NamesDirectory s u None = Prim.Unit {0}
NamesDirectory s u (Some offset) = own_directory_at (line_source s (text_base s u.header)) u.header.address_size (section_from s Line offset) ≡ Ok (record { directory = 0; name = directory_of_root s u })

abbrev pub NamesOwnDirectory : Sections → Unit → Type 0
NamesOwnDirectory s u = NamesDirectory s u (option_and_then (λ e. line_offset (attribute DW_AT_stmt_list e)) (root u))

-- Units of version 5 are compile units, as their headers say, and name their own directories.
abbrev pub AreOfVersion5 : ℕ → Sections → List Unit → Type 0
AreOfVersion5 version s us = version ≡ 5 → All (λ u. (u.header.unit_type ≡ DW_UT_compile) × NamesOwnDirectory s u) us
