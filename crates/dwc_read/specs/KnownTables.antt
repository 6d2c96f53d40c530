-- The abbreviation tables that were read. A table goes up to the code 0, so the end of one from a declaration on is a table too.
-- (DWARF 4 and 5, section 7.5.3.)
use Rattle.std.specs.Prelude.{◌≡◌, ℕ, List, drop, map, Option, Some, None, Result, Ok, Err, slice_get}
use Rattle.std.specs.List.{All}
use Rattle.dwc_base.specs.declared.records.Endian.{Endian}
use Rattle.dwc_base.specs.declared.faults.Flaw.{Flaw}
use Rattle.dwc_base.specs.Reading.{Read, items_at}
use Rattle.dwc_base.specs.Sections.{Sections}
use Rattle.dwc_base.specs.Abbreviations.{Declaration, declaration_at, abbreviation_table}
use Rattle.dwc_read.specs.declared.abbreviation.Numbered.{Numbered}
use Rattle.dwc_read.specs.declared.known_tables.KnownChain.{KnownChain}
use Rattle.dwc_read.specs.declared.unit_table.KnownTables.{KnownTables}
use Rattle.dwc_read.specs.declared.unit_table.LastTable.{LastTable}
use Rattle.dwc_read.specs.Tables.{declaration_view}
use Rattle.dwc_read.specs.UnitTables.{IsTable, read_as}

-- what some bytes read as a table from a place on, but for what is unread behind it
abbrev pub table_told : Read (List Declaration) → Result (List Declaration) Flaw
table_told (Ok read) = Ok read.0
table_told (Err flaw) = Err flaw

-- the declarations of a table, or the flaw for which there is none
abbrev pub told_as : Option Flaw → List Declaration → Result (List Declaration) Flaw
told_as None table = Ok table
told_as (Some flaw) table = Err flaw

-- From each of the places on stands what was read from that number on.
pub record AreNumbered (order : Endian) (bytes : List ℕ) (n : Numbered) : Type 0 where
  pub told : (number place : ℕ) → slice_get n.starts.items number ≡ Some place
      → table_told (items_at declaration_at (record { order = order; place = place; left = drop place bytes })) ≡ told_as n.flaw (drop number (map declaration_view n.declarations.items))

-- So it is of the tables that were read.
abbrev pub IsKnown : Sections → KnownChain → Type 0
IsKnown sections known = (number offset : ℕ) → slice_get known.starts.items number ≡ Some offset → abbreviation_table sections offset ≡ read_as offset known.flaw (drop number known.chain.value)

-- The table that was asked for last, where there is one, is the one at its offset.
abbrev pub IsLast : Sections → Option LastTable → Type 0
IsLast sections None = Unit {0}
IsLast sections (Some last) = IsTable sections last.offset last.table

-- what is kept of the tables that were read
abbrev pub AreKnown : Sections → KnownTables → Type 0
AreKnown sections tables = All (IsKnown sections) tables.chains.items × IsLast sections tables.last

abbrev pub AreKnownIf : Sections → Option KnownTables → Type 0
AreKnownIf sections None = Unit {0}
AreKnownIf sections (Some tables) = AreKnown sections tables
