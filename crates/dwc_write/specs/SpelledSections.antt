-- Units and line tables one behind another in their sections, and their relocations. The laws are in `ReadSections`.
use Rattle.std.specs.Prelude.{◌≡◌, ◌⊎◌, ℕ, ◌+◌, ◌^◌, ◌<◌, List, [], ◌∷◌, ◌++◌, length, if◌then◌else◌}
use Rattle.std.specs.List.{All, flat_map}
use Rattle.dwc_base.specs.declared.records.Endian.{Endian}
use Rattle.dwc_base.specs.declared.constants.TheConstants.{DW_UT_compile}
use Rattle.dwc_base.specs.NumberBytes.{number_bytes}
use Rattle.dwc_base.specs.Abbreviations.{Declaration}
use Rattle.dwc_dwarf.specs.LineHeaders.{LineFile}
use Rattle.dwc_dwarf.specs.LineRows.{LineTable}
use Rattle.dwc_dwarf.specs.ReadUnits.{Unit as ReadUnit}
use Rattle.dwc_section.specs.Spelled.{at_places}
use Rattle.dwc_unit.specs.SpelledTables.{table_bytes, FitsDeclaration}
use Rattle.dwc_section.specs.SpelledAddresses.{AddressField}
use Rattle.dwc_unit.specs.SpelledUnits.{WrittenEntry, shaped, FitsEntry, IsTree, unit_body, unit_bytes, header_length, read_header, entries_fields, read_entries}
use Rattle.dwc_output.specs.Versions.{is_old}
use Rattle.dwc_unit.specs.GivenUnits.{IsWrittenVersion}
use Rattle.dwc_write.specs.PathTables.{FitsPathTable, path_program_place, path_table_bytes, read_path_table}
use Rattle.dwc_unit.specs.SpelledLines.{FitsName, FitsFile, WrittenSequence, FitsSequence, line_body, line_table_bytes, program_place, program_fields, sequences_instructions, read_line_table}

-- ---- units

-- a unit: its version, where its abbreviation table stands, the table, and its entries
pub record WrittenUnit : Type 0 where
  pub version : ℕ
  pub table_offset : ℕ
  pub table : List Declaration
  pub entries : List WrittenEntry

-- a unit's header with room for its length (DWARF 4 and 5, section 7.5.1.1)
abbrev pub header_bytes : ℕ → Endian → ℕ → ℕ → List ℕ
header_bytes version order size table_offset =
    (0 ∷ 0 ∷ 0 ∷ 0 ∷ []) ++ (number_bytes order 2 version
    ++ (if is_old version then number_bytes order 4 table_offset ++ (size ∷ []) else (DW_UT_compile ∷ size ∷ []) ++ number_bytes order 4 table_offset))

-- .debug_abbrev and .debug_info
abbrev pub tables_bytes : List WrittenUnit → List ℕ
tables_bytes us = flat_map (λ u. table_bytes u.table) us

abbrev pub placed_unit_bytes : Endian → ℕ → WrittenUnit → List ℕ
placed_unit_bytes order size u = unit_bytes u.version order size u.table_offset u.entries

abbrev pub info_bytes : Endian → ℕ → List WrittenUnit → List ℕ
info_bytes order size us = flat_map (placed_unit_bytes order size) us

abbrev pub unit_fields : Endian → ℕ → ℕ → WrittenUnit → List AddressField
unit_fields order size place u = entries_fields order size (place + header_length u.version) u.entries

abbrev pub info_fields : Endian → ℕ → ℕ → List WrittenUnit → List AddressField
info_fields order size place us = at_places (placed_unit_bytes order size) (unit_fields order size) place us

-- the unit that is read at a place
abbrev pub read_unit : Endian → ℕ → ℕ → WrittenUnit → ReadUnit
read_unit order size place u = record { header = read_header u.version order size u.table_offset place u.entries; entries = read_entries order size (place + header_length u.version) u.entries }

abbrev pub read_units : Endian → ℕ → ℕ → List WrittenUnit → List ReadUnit
read_units order size place us = at_places (placed_unit_bytes order size) (λ p u. read_unit order size p u ∷ []) place us

pub record FitsUnit (order : Endian) (size : ℕ) (u : WrittenUnit) : Type 0 where
  pub version : IsWrittenVersion u.version
  pub offset : u.table_offset < 256 ^ 4
  pub short : length (unit_body u.version order size u.table_offset u.entries) < 0xFFFFFFF0
  pub table : All FitsDeclaration u.table
  pub entries : All (FitsEntry u.table size) (shaped u.entries)
  pub tree : IsTree u.entries

-- each unit's table stands behind the one before
abbrev pub AreTablesFrom : ℕ → List WrittenUnit → Type 0
AreTablesFrom offset [] = Unit {0}
AreTablesFrom offset (u ∷ us) = (u.table_offset ≡ offset) × AreTablesFrom (offset + length (table_bytes u.table)) us

-- ---- line tables

-- A table: its version, its directories, files and sequences. From version 5 on it has a directory of its own in front, and its names stand elsewhere
-- among some texts.
pub record WrittenTable : Type 0 where
  pub version : ℕ
  pub texts : List (List ℕ)
  pub own : List ℕ
  pub directories : List (List ℕ)
  pub files : List LineFile
  pub sequences : List WrittenSequence

abbrev pub one_table_bytes : Endian → ℕ → WrittenTable → List ℕ
one_table_bytes order size t =
    if is_old t.version then line_table_bytes order size t.directories t.files (sequences_instructions t.sequences)
    else path_table_bytes order size t.texts t.own t.directories t.files (sequences_instructions t.sequences)

-- .debug_line
abbrev pub lines_bytes : Endian → ℕ → List WrittenTable → List ℕ
lines_bytes order size ts = flat_map (one_table_bytes order size) ts

-- where the program stands in a table
abbrev pub table_program_place : Endian → WrittenTable → ℕ
table_program_place order t = if is_old t.version then program_place t.directories t.files else path_program_place order t.texts t.own t.directories t.files

abbrev pub one_table_fields : Endian → ℕ → ℕ → WrittenTable → List AddressField
one_table_fields order size place t = program_fields order size (place + table_program_place order t) (sequences_instructions t.sequences)

abbrev pub lines_fields : Endian → ℕ → ℕ → List WrittenTable → List AddressField
lines_fields order size place ts = at_places (one_table_bytes order size) (one_table_fields order size) place ts

-- a table with its offset
pub record PlacedTable : Type 0 where
  pub offset : ℕ
  pub table : WrittenTable

abbrev pub placed_tables : Endian → ℕ → ℕ → List WrittenTable → List PlacedTable
placed_tables order size place ts = at_places (one_table_bytes order size) (λ p t. record { offset = p; table = t } ∷ []) place ts

abbrev pub read_table : Endian → ℕ → PlacedTable → LineTable
read_table order size p =
    if is_old p.table.version then read_line_table order size p.offset p.table.directories p.table.files p.table.sequences
    else read_path_table order size p.offset p.table.texts p.table.own p.table.directories p.table.files p.table.sequences

-- what is asked of a table of a version
pub record FitsOldTable (order : Endian) (size : ℕ) (t : WrittenTable) : Type 0 where
  pub directories : All FitsName t.directories
  pub files : All FitsFile t.files
  pub sequences : All (FitsSequence size) t.sequences
  pub short : length (line_body order size t.directories t.files (sequences_instructions t.sequences)) < 0xFFFFFFF0

abbrev pub FitsTable : Endian → ℕ → WrittenTable → Type 0
FitsTable order size t = ((t.version ≡ 4) × FitsOldTable order size t) ⊎ ((t.version ≡ 5) × FitsPathTable order size t.texts t.own t.directories t.files t.sequences)
