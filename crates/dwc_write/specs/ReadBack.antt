-- What is written is read back as it was given.
use Rattle.std.specs.Prelude.{◌≡◌, ℕ, List, [], ◌∷◌, map, Option, Some, None, Ok}
use Rattle.std.specs.List.{AllZip}
use Rattle.dwc_base.specs.declared.records.Endian.{Endian}
use Rattle.dwc_dwarf.specs.LineRows.{LineTable, segments}
use Rattle.dwc_base.specs.Sections.{Sections}
use Rattle.dwc_dwarf.specs.Values.{Value}
use Rattle.dwc_dwarf.specs.Entries.{Entry}
use Rattle.dwc_dwarf.specs.ReadUnits.{Unit, units, table_of_unit}
use Rattle.dwc_base.specs.Outputs.{OutputSection, output_sections}
use Rattle.dwc_unit.specs.declared.attributes.Attribute.{Attribute}
use Rattle.dwc_unit.specs.SpelledUnits.{written_value}
use Rattle.dwc_unit.specs.declared.lists.ListPlaces.{ListPlaces}
use Rattle.dwc_unit.specs.Lists.{behind_attributes}
use Rattle.dwc_unit.specs.GivenLines.{GivenLines}
use Rattle.dwc_unit.specs.GivenUnits.{GivenEntry, OrderedUnit, Places, written_of}
use Rattle.dwc_output.specs.Versions.{files_written}
use Rattle.dwc_unit.specs.GivenSegments.{given_segments}

-- ---- entries

-- an entry beside its offset: its depth, its tag, and its attributes by name
pub record Contents : Type 0 where
  pub depth : ℕ
  pub tag : ℕ
  pub attributes : List (ℕ × Value)

abbrev pub read_contents : Entry → Contents
read_contents e = record { depth = e.depth; tag = e.tag; attributes = e.attributes }

-- the value of an attribute, in a unit with some places, where the next lists stand at others
abbrev pub given_value : Places → ListPlaces → Attribute → ℕ × Value
given_value places lists a = (a.name, written_value a.name (written_of places lists a.value))

abbrev pub given_values : (ListPlaces → List Attribute → ListPlaces) → Places → ListPlaces → List Attribute → List (ℕ × Value)
given_values next places lists [] = []
given_values next places lists (a ∷ others) = given_value places lists a ∷ given_values next places (next lists (a ∷ [])) others

abbrev pub given_contents : (ListPlaces → List Attribute → ListPlaces) → Places → ListPlaces → List GivenEntry → List Contents
given_contents next places lists [] = []
given_contents next places lists (e ∷ es) = record { depth = e.depth; tag = e.tag; attributes = given_values next places lists e.attributes } ∷ given_contents next places (next lists e.attributes) es

-- ---- units

-- A unit names a line table, of its version, with the directories, the files and the sequences of a line program.
pub record ReadsTable (s : Sections) (v : Unit) (g : GivenLines) : Type 0 where
  pub table : LineTable
  pub table_read : table_of_unit s v ≡ Ok (Some table)
  pub version : table.header.version ≡ v.header.version
  pub directories : table.header.directories ≡ g.directories
  pub files : table.files ≡ files_written v.header.version g.files
  pub sequences : segments table ≡ given_segments g

-- the same by the address size of the program; where that is none, the unit names no line table
abbrev pub ReadsLines : Sections → Unit → GivenLines → Option ℕ → Type 0
ReadsLines s v g None = table_of_unit s v ≡ Ok None
ReadsLines s v g (Some size) = ReadsTable s v g

-- A unit that is read is the one that was given: its version, its entries, and its line program.
pub record IsReadUnit (s : Sections) (u : OrderedUnit) (v : Unit) : Type 0 where
  pub places : Places
  pub lists : ListPlaces
  pub version : v.header.version ≡ u.version
  pub address_size : v.header.address_size ≡ u.address_size
  pub entries : map read_contents v.entries ≡ given_contents (behind_attributes u.version u.address_size) places lists u.entries
  pub lines : ReadsLines s v u.lines u.lines.address_size

-- Some sections hold, one to one and in order, the given units, and no others.
pub record ReadsBack (order : Endian) (us : List OrderedUnit) (s : List OutputSection) : Type 0 where
  pub read : List Unit
  pub units_read : units (output_sections order s) ≡ record { items = read; fault = None }
  pub each : AllZip (IsReadUnit (output_sections order s)) us read
