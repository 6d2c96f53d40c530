-- The places of an input that are read, in their order, and the first of them that is refused. (This project's own order.)
use Rattle.std.specs.Prelude.{ℕ, List, [], ◌∷◌, true, false, Option, Some, None, Result, Ok, Err}
use Rattle.dwc_base.specs.Sections.{Sections, Fault}
use Rattle.dwc_base.specs.Units.{UnitHeader}
use Rattle.dwc_dwarf.specs.Indexed.{text_base}
use Rattle.dwc_dwarf.specs.Entries.{Entry, attribute}
use Rattle.dwc_dwarf.specs.LineRows.{LineTable, line_table}
use Rattle.dwc_dwarf.specs.LineFiles.{has_all_files}
use Rattle.dwc_dwarf.specs.ReadUnits.{Unit, root, line_offset}
use Rattle.dwc_native.specs.FrameRefusals.{FrameRefusal}
use Rattle.dwc_base.specs.declared.constants.TheConstants.{DW_AT_stmt_list}

-- A place that cannot be read or is of a refused kind; a line table, by its offset, that names a file or a directory
-- that is not there, or one with an empty name; a function that is longer than an addend can say; a start plus a length that is
-- no address; of an expression a label that has a range which begins above its end, the linear memory of the module at a place,
-- which has none, a register without a DWARF number, or a jump that goes too far; a linear memory too far behind in its context; a path
-- of the simulated unit that names no file; or the frame description of a function, which cannot be written.
pub data Refusal : Type 0 where
  of_place : Fault → Refusal
  missing_file : ℕ → Refusal
  long_function : Refusal
  long_range : Refusal
  bad_label : ℕ → Refusal
  lacks_memory : ℕ → Refusal
  unmapped_register : ℕ → Refusal
  long_jump : Refusal
  far_memory : Refusal
  bad_path : Refusal
  of_frame : FrameRefusal → Refusal

-- the refusal of the line table at an offset
abbrev pub table_refusal : ℕ → Result LineTable Fault → Option Refusal
table_refusal offset (Err fault) = Some (of_place fault)
table_refusal offset (Ok t) = elim (has_all_files t) [ true ↦ None | false ↦ Some (missing_file offset) ]

-- the refusal of the line table that a root names, if it names one
abbrev pub lines_refusal : Sections → UnitHeader → Option ℕ → Option Refusal
lines_refusal s h None = None
lines_refusal s h (Some offset) = table_refusal offset (line_table s h.address_size (text_base s h) offset)

-- the offset of the line table that an entry names
abbrev pub table_offset : Option Entry → Option ℕ
table_offset None = None
table_offset (Some e) = line_offset (attribute DW_AT_stmt_list e)

-- the refusal of a carried unit's line table
abbrev pub unit_refusal : Sections → Unit → Option Refusal
unit_refusal s u = lines_refusal s u.header (table_offset (root u))
