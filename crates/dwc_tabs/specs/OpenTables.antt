-- A line table whose program is read as its rows are taken.
use Rattle.std.specs.Prelude.{◌≡◌, ℕ, suc, ◌+◌, ◌*◌, ◌^◌, ◌<◌, ◌≤◌, nat_abs, nat_lt, List, [], ◌∷◌, ◌++◌, map, length, All, Bool, true, false, ◌&&◌, if◌then◌else◌, Option, Some, None, is_none, Result, Ok, Err}
use Rattle.std.specs.List.{list_all}
use Rattle.std.specs.List.Sorted.{IsNonDecreasingBy}
use Rattle.dwc_base.specs.declared.faults.Flaw.{Flaw}
use Rattle.dwc_base.specs.declared.records.LineRow.{LineRow}
use Rattle.dwc_base.specs.Cursors.{slice_bytes}
use Rattle.dwc_dwarf.specs.LineFiles.{has_names, is_named, has_all_files}
use Rattle.dwc_dwarf.specs.LineHeaders.{LineSource, line_source, line_header_at}
use Rattle.dwc_dwarf.specs.LineRows.{Registers, LineTable, LineStep, start, row, end, file_defined, line_table}
use Rattle.dwc_base.specs.Reading.{Unread}
use Rattle.dwc_base.specs.Sections.{Sections, Relocation, section_from}
use Rattle.dwc_base.specs.declared.section_name.SectionName.TheVariants.{Line}
use Rattle.dwc_tabs.specs.declared.parameters.Parameters.{Parameters}
use Rattle.dwc_tabs.specs.declared.open_table.OpenTable.TheInside.{Inside}
use Rattle.dwc_tabs.specs.declared.registers.Registers as own
use Rattle.dwc_tabs.specs.declared.step.LineStop.{LineStop}
use Rattle.dwc_tabs.specs.declared.step.LineStop.TheVariants.{Start, End}
use Rattle.dwc_tabs.specs.Headers.{file_view, header_of}
use Rattle.dwc_tabs.specs.Programs.{instructions_from, shown_from, steps_from, is_number}
use Rattle.dwc_tabs.specs.Steps.{registers_view}
use Rattle.dwc_tabs.specs.Tables.{names_within, table_at}

-- Such a table: its steps are those that are not taken. All of it can be read, and all its files are there, where what is left is sound.
pub record OpenLines : Type 0 where
  pub table : LineTable
  pub sound : Bool

-- ---- what is left

-- whether what is shown is in range, and names one of so many files
abbrev pub is_shown_within : ℕ → ℕ → Option LineStep → Bool
is_shown_within version count None = false
is_shown_within version count (Some s) = names_within version count s

-- whether all can be read that is left, is in range and names one of so many files, and no file is defined
unfoldable pub is_sound : Parameters → List Relocation → ℕ → Registers → Unread → Bool
is_sound p relocations count r u =
    is_none (instructions_from p relocations u).fault
    && list_all (is_shown_within p.version count) (shown_from p relocations r u)
    && list_all (λ i. is_none (file_defined i)) (instructions_from p relocations u).items

-- The registers of the program have 64 bits, and the line stays within 128 bits, however far each instruction moves it.
pub record HasRoom (r : Registers) (u : Unread) : Type 0 where
  pub offset : r.offset < 2 ^ 64
  pub line : nat_abs r.line + 2 ^ 63 * length u.left < 2 ^ 127

-- the table that the program keeps
abbrev pub open_view : Inside → OpenLines
open_view t = record {
  table = record {
    header = header_of t.parameters (map slice_bytes t.directories.items) (map file_view t.files.items) t.program;
    files = map file_view t.files.items;
    steps = steps_from t.parameters t.relocations (registers_view t.registers) t.cursor;
  };
  sound = is_sound t.parameters t.relocations (length (map file_view t.files.items)) (registers_view t.registers) t.cursor;
}

abbrev pub RunsInRoom : Inside → Type 0
RunsInRoom t = HasRoom (registers_view t.registers) t.cursor

-- ---- rows with files from 1 on

-- a row with its file's number counted from 1, as up to version 4
abbrev pub row_from_one : ℕ → LineRow → LineRow
row_from_one version r = record { offset = r.offset; file = if nat_lt version 5 then r.file else suc r.file; line = r.line; column = r.column; is_stmt = r.is_stmt; basic_block = r.basic_block; prologue_end = r.prologue_end; epilogue_begin = r.epilogue_begin; isa = r.isa; discriminator = r.discriminator }

abbrev pub step_from_one : ℕ → LineStep → LineStep
step_from_one version (row r) = row (row_from_one version r)
step_from_one version (start a) = start a
step_from_one version (end e) = end e

-- that row where its file is one of so many, and a refusal where not
abbrev pub RowWithin : ℕ → ℕ → LineRow → Result LineRow Flaw → Type 0
RowWithin version count r (Ok one) = (is_number version count r.file ≡ true) × (one ≡ row_from_one version r)
RowWithin version count r (Err flaw) = Unit {0}

-- a row's file is one of so many, counted from 1, and its line has 32 bits
pub record FitsRow (count : ℕ) (r : LineRow) : Type 0 where
  pub line : r.line < 2 ^ 32
  pub some : 0 < r.file
  pub known : r.file ≤ count

-- ---- what is taken

-- a stop as a step
abbrev pub stop_view : LineStop → LineStep
stop_view (Start a) = start a
stop_view (End e) = end e

-- some steps behind a stop; none behind the end of all
abbrev pub stopped : Option LineStop → List LineStep → List LineStep
stopped None steps = []
stopped (Some stop) steps = stop_view stop ∷ steps

-- behind the end of all nothing is left, and so all is sound
abbrev pub EndsSound : Option LineStop → Bool → Type 0
EndsSound None sound = sound ≡ true
EndsSound (Some stop) sound = Unit {0}

-- Rows and a stop are taken from some steps: what was sound is what is left to be so. The rows fit, and do not fall in offset.
pub record Takes (version count : ℕ) (old new : List LineStep) (was is : Bool) (rows : List LineRow) (stop : Option LineStop) : Type 0 where
  pub steps : map (step_from_one version) old ≡ map row rows ++ stopped stop (map (step_from_one version) new)
  pub sound : is ≡ was
  pub ends : EndsSound stop was
  pub each : All (FitsRow count) rows
  pub rise : IsNonDecreasingBy (λ r. r.offset) rows

-- A program is decoded from some registers on up to a stop, and what is left of it runs on from others.
pub record Decodes (p : Parameters) (relocations : List Relocation) (count : ℕ) (r : Registers) (u : Unread) (rows : List LineRow) (d : Option LineStop × own.Registers × Unread) : Type 0 where
  pub room : HasRoom (registers_view d.1) d.2
  pub takes : Takes p.version count (steps_from p relocations r u) (steps_from p relocations (registers_view d.1) d.2) (is_sound p relocations count r u) (is_sound p relocations count (registers_view d.1) d.2) rows d.0

-- rows are taken from a table, which is the same but for these
pub record TakesRows (old new : OpenLines) (rows : List LineRow) (stop : Option LineStop) : Type 0 where
  pub header : new.table.header ≡ old.table.header
  pub files : new.table.files ≡ old.table.files
  pub takes : Takes old.table.header.version (length old.table.files) old.table.steps new.table.steps old.sound new.sound rows stop

-- ---- what is opened

-- A table is opened from what is unread: its header is read, and the files and directories that this names are there.
pub record OpensAt (source : LineSource) (address_size : ℕ) (u : Unread) (t : OpenLines) : Type 0 where
  pub header : line_header_at source address_size u ≡ Ok t.table.header
  pub directories : list_all is_named t.table.header.directories ≡ true
  pub files : list_all (has_names t.table.header.directories) t.table.files ≡ true
  pub same_files : t.table.files ≡ t.table.header.files
  pub whole : t.sound ≡ true → table_at source address_size u ≡ Ok t.table
  pub there : t.sound ≡ true → has_all_files t.table ≡ true

-- The same of the table at an offset of `.debug_line`.
pub record Opens (s : Sections) (address_size base offset : ℕ) (t : OpenLines) : Type 0 where
  pub header : line_header_at (line_source s base) address_size (section_from s Line offset) ≡ Ok t.table.header
  pub directories : list_all is_named t.table.header.directories ≡ true
  pub files : list_all (has_names t.table.header.directories) t.table.files ≡ true
  pub same_files : t.table.files ≡ t.table.header.files
  pub whole : t.sound ≡ true → line_table s address_size base offset ≡ Ok t.table
  pub there : t.sound ≡ true → has_all_files t.table ≡ true
