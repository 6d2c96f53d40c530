-- A line table as it is read: from what is unread, and from the parts that the program keeps.
use Rattle.std.specs.Prelude.{◌≡◌, ℕ, List, map, take, drop, ◌<◌, Bool, nat_lt, nat_le, ◌&&◌, true, Option, Some, None, length, Result, Ok, Err}
use Rattle.std.specs.List.{list_all}
use Rattle.dwc_base.specs.declared.records.Endian.{Endian}
use Rattle.dwc_base.specs.declared.faults.Flaw.{Flaw}
use Rattle.dwc_base.specs.declared.faults.NotRead.{NotRead}
use Rattle.dwc_base.specs.declared.faults.NotRead.TheVariants.{OutOfMemory, Flawed}
use Rattle.dwc_base.specs.Reading.{Unread, ◌>>=◌}
use Rattle.dwc_base.specs.declared.faults.What.TheVariants.{LineTable as LineTableRead}
use Rattle.dwc_base.specs.declared.section_name.SectionName.TheVariants.{Line}
use Rattle.dwc_base.specs.Sections.{Relocation, Fault, reported}
use Rattle.dwc_dwarf.specs.LineHeaders.{LineFile, LineSource, line_header_at, instructions}
use Rattle.dwc_dwarf.specs.LineRows.{LineTable, LineStep, start, row, end, checked_table, at_sequence_start}
use Rattle.dwc_base.specs.Cursors.{slice_bytes}
use Rattle.dwc_tabs.specs.declared.parameters.Parameters.{Parameters}
use Rattle.dwc_tabs.specs.declared.program.ProgramCheck.{ProgramCheck}
use Rattle.dwc_tabs.specs.declared.table.LineTable.TheInside.{Inside}
use Rattle.dwc_tabs.specs.declared.table.Rows.TheInside as rows
use Rattle.dwc_tabs.specs.Headers.{file_view, header_of, program_header}
use Rattle.dwc_tabs.specs.Steps.{registers_view}
use Rattle.dwc_tabs.specs.Programs.{CanRun, steps_from, is_number, are_within}

-- the table at the front of what is unread, for a unit of an address size
unfoldable pub table_at : LineSource → ℕ → Unread → Result LineTable Flaw
table_at source address_size u = do
  h ← line_header_at source address_size u
  checked_table h (instructions source.relocations h h.program)

-- the table at an offset of the bytes of a line section
abbrev pub table_in : LineSource → List ℕ → ℕ → ℕ → Result LineTable Fault
table_in source line address_size offset = reported LineTableRead Line offset (table_at source address_size (record { order = source.texts.order; place = offset; left = drop offset line }))

-- a table by its parts; the first files are those of the header
abbrev pub table_of_parts : Parameters → List (List ℕ) → ℕ → List LineFile → List Relocation → Unread → LineTable
table_of_parts p directories header_files files relocations program = record {
  header = header_of p directories (take header_files files) program;
  files = files;
  steps = steps_from p relocations (at_sequence_start (program_header p)) program;
}

-- the table that the program keeps
abbrev pub table_view : Inside → LineTable
table_view t = table_of_parts t.parameters (map slice_bytes t.directories.items) t.header_files (map file_view t.files.items) t.relocations t.program

-- its program runs to its end
abbrev pub IsWhole : Inside → Type 0
IsWhole t = CanRun t.parameters t.relocations (at_sequence_start (program_header t.parameters)) t.program

-- the steps that are still to come
abbrev pub rows_view : rows.Inside → List LineStep
rows_view r = steps_from r.parameters r.relocations (registers_view r.registers) r.cursor

abbrev pub RunsOn : rows.Inside → Type 0
RunsOn r = CanRun r.parameters r.relocations (registers_view r.registers) r.cursor

-- whether a row names one of so many files
abbrev pub names_within : ℕ → ℕ → LineStep → Bool
names_within version count (start a) = true
names_within version count (row r) = is_number version count r.file
names_within version count (end e) = true

-- a check knows between which numbers those lie that rows name
abbrev pub Bounds : ProgramCheck → List LineStep → Type 0
Bounds check steps = (version count : ℕ) → list_all (names_within version count) steps ≡ are_within version count check.files

-- whether a file's directory is one of the first, as many as said, or 0, and its name is not empty
abbrev pub is_named_within : ℕ → LineFile → Bool
is_named_within count f = nat_le f.directory count && nat_lt 0 (length f.name)

-- a reader gives a table with what was noted of its rows; an error is want of memory, or the flaw that is met
abbrev pub ReadsTable : Result LineTable Flaw → Result (LineTable × ProgramCheck) NotRead → Type 0
ReadsTable read (Ok t) = (read ≡ Ok t.0) × Bounds t.1 t.0.steps
ReadsTable read (Err OutOfMemory) = Unit {0}
ReadsTable read (Err (Flawed flaw)) = read ≡ Err flaw

-- what is unread of some bytes from an offset on; none where the offset is past their end
abbrev pub UnreadFrom : Endian → List ℕ → ℕ → Option Unread → Type 0
UnreadFrom order bytes offset (Some u) = u ≡ record { order = order; place = offset; left = drop offset bytes }
UnreadFrom order bytes offset None = length bytes < offset
