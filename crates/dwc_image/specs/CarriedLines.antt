-- What the line program of a unit carries of a line table.
use Rattle.std.specs.Prelude.{◌≡◌, ℕ, suc, ◌≤◌, List, map, length, ◌++◌, nat_lt, if◌then◌else◌, Some, None, Ok, sum_by, true}
use Rattle.std.specs.List.{filter, AllZip}
use Rattle.dwc_dwarf.specs.LineHeaders.{LineFile}
use Rattle.dwc_base.specs.declared.records.LineRow.{LineRow}
use Rattle.dwc_base.specs.declared.records.OutputFor.{OutputFor}
use Rattle.dwc_base.specs.Sections.{Sections}
use Rattle.dwc_dwarf.specs.LineRows.{LineTable, LineStep, start, row, end, segments, line_table}
use Rattle.dwc_dwarf.specs.LineFiles.{has_all_files}
use Rattle.dwc_native.specs.Functions.{Function, AddressMap, functions_of}
use Rattle.dwc_addr.specs.Transforms.{first_bad_map}
use Rattle.dwc_native.specs.Images.{is_carried_segment, IsImageOf}
use Rattle.dwc_output.specs.Widest.{most_rows, widest_image}
use Rattle.dwc_unit.specs.SpelledLines.{FitsName}
use Rattle.dwc_unit.specs.GivenSegments.{given_segments}
use Rattle.dwc_unit.specs.GivenLines.{GivenLines}

-- ---- a table as one of version 4

-- A file's number in a table of version 4, by its number in one of a version: files count from 1, from version 5 on from 0.
-- (DWARF 4, section 6.2.4, 12; DWARF 5, section 6.2.4, 17.)
abbrev pub carried_number : ℕ → ℕ → ℕ
carried_number version n = if nat_lt version 5 then n else suc n

abbrev pub carried_row : ℕ → LineRow → LineRow
carried_row version r = record { offset = r.offset; file = carried_number version r.file; line = r.line; column = r.column; is_stmt = r.is_stmt; basic_block = r.basic_block; prologue_end = r.prologue_end; epilogue_begin = r.epilogue_begin; isa = r.isa; discriminator = r.discriminator }

abbrev pub carried_step : ℕ → LineStep → LineStep
carried_step version (row r) = row (carried_row version r)
carried_step version (start a) = start a
carried_step version (end e) = end e

-- the steps of a table, with the files' numbers of version 4
abbrev pub carried_steps : LineTable → List LineStep
carried_steps t = map (carried_step t.header.version) t.steps

-- ---- what can be carried, and what carries it

-- a file has a name that can be written, and one of so many directories or the compilation directory
pub record FitsDirectories (directories : ℕ) (f : LineFile) : Type 0 where
  pub name : FitsName f.name
  pub known : f.directory ≤ directories

-- A table as it is read, all of whose files and directories are there.
pub record IsRead (t : LineTable) : Type 0 where
  pub sections : Sections
  pub address_size : ℕ
  pub base : ℕ
  pub offset : ℕ
  pub is_read : line_table sections address_size base offset ≡ Ok t
  pub files : has_all_files t ≡ true

-- Functions as a transform keeps them for some output, none of whose address maps is bad.
pub record AreKept (fs : List Function) : Type 0 where
  pub output : OutputFor
  pub code_offset : ℕ
  pub first_number : ℕ
  pub maps : List AddressMap
  pub good : first_bad_map code_offset 0 maps ≡ None
  pub kept : fs ≡ functions_of output code_offset first_number maps

-- A line program has the directories and files of a table in order, and its sequences are, one to one and in order, images of
-- the carried segments of the table. At their widest they are no longer than these.
pub record CarriesTable (t : LineTable) (fs : List Function) (size : ℕ) (g : GivenLines) : Type 0 where
  pub address_size : g.address_size ≡ Some size
  pub directories : g.directories ≡ t.header.directories
  pub files : g.files ≡ t.files
  pub ended : g.begun ≡ None
  pub images : AllZip (IsImageOf fs) (filter (is_carried_segment fs) (segments t)) (given_segments g)
  pub widest : sum_by (λ q. widest_image (length q.rows)) g.sequences ≤ sum_by (λ q. widest_image (most_rows fs q)) (filter (is_carried_segment fs) (segments t))

abbrev pub with_directories : List (List ℕ) → GivenLines → GivenLines
with_directories names g = record { address_size = g.address_size; directories = g.directories ++ names; files = g.files; sequences = g.sequences; begun = g.begun }

abbrev pub with_files : List LineFile → GivenLines → GivenLines
with_files files g = record { address_size = g.address_size; directories = g.directories; files = g.files ++ files; sequences = g.sequences; begun = g.begun }
