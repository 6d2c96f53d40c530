-- What a refusal of a line table says.
use Rattle.std.specs.Prelude.{◌≡◌, ℕ, false, true, Option, Some, None, Result, Ok, Err}
use Rattle.dwc_base.specs.Sections.{Fault, unreadable, unsupported}
use Rattle.dwc_dwarf.specs.LineRows.{LineTable}
use Rattle.dwc_dwarf.specs.LineFiles.{has_all_files}
use Rattle.dwc_tabs.specs.declared.fault.TabFault.{TabFault}
use Rattle.dwc_tabs.specs.declared.fault.TabFault.TheVariants.{Read, Unsupported, InvalidFileIndex, OutOfMemory}

-- the fault that a refusal tells; a name that is not there, and want of memory, are none of the grammar
abbrev pub fault_view : TabFault → Option Fault
fault_view (Read what section offset) = Some (unreadable what section offset)
fault_view (Unsupported kind offset) = Some (unsupported kind offset)
fault_view (InvalidFileIndex offset) = None
fault_view OutOfMemory = None

-- A table is there, and a row, a file or a directory that it names is not.
pub record LacksFile (read : Result LineTable Fault) : Type 0 where
  pub table : LineTable
  pub is_read : read ≡ Ok table
  pub lacks : has_all_files table ≡ false

-- A call answers the table at an offset, with all the files and directories that it names; it is refused for want of memory,
-- for the fault that reading meets, or for a name that is not there.
abbrev pub AnswersTable : ℕ → Result LineTable Fault → Result LineTable TabFault → Type 0
AnswersTable offset read (Ok t) = (read ≡ Ok t) × (has_all_files t ≡ true)
AnswersTable offset read (Err (Read what section at)) = read ≡ Err (unreadable what section at)
AnswersTable offset read (Err (Unsupported kind at)) = read ≡ Err (unsupported kind at)
AnswersTable offset read (Err (InvalidFileIndex at)) = LacksFile read × (at ≡ offset)
AnswersTable offset read (Err OutOfMemory) = Unit {0}
