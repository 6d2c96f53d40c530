-- What the line program of a carried unit carries, and which files its entries name.
use Rattle.std.specs.Prelude.{◌≡◌, ℕ, List, true, Option, Some, None, Result, Ok}
use Rattle.dwc_base.specs.declared.records.Encoding.{Encoding}
use Rattle.dwc_base.specs.Sections.{Sections}
use Rattle.dwc_base.specs.Units.{UnitHeader}
use Rattle.dwc_dwarf.specs.Indexed.{text_base}
use Rattle.dwc_native.specs.Functions.{Function}
use Rattle.dwc_dwarf.specs.LineRows.{LineTable, line_table}
use Rattle.dwc_dwarf.specs.LineFiles.{has_all_files}
use Rattle.dwc_rules.specs.Refusals.{lines_refusal}
use Rattle.dwc_unit.specs.GivenLines.{GivenLines, no_lines}
use Rattle.dwc_unit.specs.GivenUnits.{new_unit}
use Rattle.dwc_image.specs.CarriedLines.{CarriesTable}
use Rattle.dwc_source.specs.declared.files.UnitFiles.{UnitFiles}
use Rattle.dwc_source.specs.Sources.{AreFiles}
use Rattle.dwc_carry.specs.declared.begun_unit.BegunUnit.{BegunUnit}
use Rattle.dwc_carry.specs.declared.error.DebugError.{DebugError}
use Rattle.dwc_carry.specs.Refusals.{ReadsOr}

-- A line program carries the line table at an offset, read for a unit of an address size whose texts by an index begin at a base, all of
-- whose files and directories are there, and the files are its own, for an output of an encoding.
pub record CarriesTableAt (fs : List Function) (s : Sections) (address_size base : ℕ) (encoding : Encoding) (offset : ℕ) (files : UnitFiles) (lines : GivenLines) : Type 0 where
  pub table : LineTable
  pub is_read : line_table s address_size base offset ≡ Ok table
  pub all_there : has_all_files table ≡ true
  pub carries : CarriesTable table fs encoding.address_size lines
  pub files_are : AreFiles files encoding.version table.header.version (Some table)

-- A line program carries the line table that the root of a unit names; there is none where it names none.
abbrev pub CarriesNamed : List Function → Sections → UnitHeader → Encoding → Option ℕ → UnitFiles → GivenLines → Type 0
CarriesNamed fs s h encoding None files lines = AreFiles files encoding.version h.version None × (lines ≡ no_lines None)
CarriesNamed fs s h encoding (Some offset) files lines = CarriesTableAt fs s h.address_size (text_base s h) encoding offset files lines

-- A new unit, with the line program that carries what a root names, and the files of that.
abbrev pub IsBegun : List Function → Sections → UnitHeader → Encoding → Option ℕ → BegunUnit → Type 0
IsBegun fs s h encoding offset b = CarriesNamed fs s h encoding offset b.files b.unit.lines × (b.unit ≡ new_unit encoding.version encoding.address_size b.unit.lines)

-- That unit, or the refusal of the line table.
abbrev pub GivesBegun : List Function → Sections → UnitHeader → Encoding → Option ℕ → Result BegunUnit DebugError → Type 0
GivesBegun fs s h encoding offset result = ReadsOr (IsBegun fs s h encoding offset) (lines_refusal s h offset) result
