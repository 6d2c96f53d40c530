-- What the instructions show, one by one, and the program's own registers and steps seen as those of the definitions.
use Rattle.std.specs.Prelude.{ℕ, ◌-◌, ◌^◌, min, Option, Some, None, nat_lt, if◌then◌else◌, List, map}
use Rattle.dwc_base.specs.declared.records.LineRow.{LineRow}
use Rattle.dwc_dwarf.specs.LineHeaders as spec
use Rattle.dwc_dwarf.specs.LineRows as rows
use Rattle.dwc_tabs.specs.declared.registers.Registers.{Registers}
use Rattle.dwc_tabs.specs.declared.step.LineStep.{LineStep}
use Rattle.dwc_tabs.specs.declared.step.LineStep.TheVariants.{Start, Row, End}
use Rattle.dwc_tabs.specs.declared.step.Shown.{Shown}
use Rattle.dwc_tabs.specs.declared.step.Shown.TheVariants.{Nothing, Step, OutOfRange}

-- the registers
abbrev pub registers_view : Registers → rows.Registers
registers_view r = record { offset = r.offset; file = r.file; line = r.line; column = r.column; is_stmt = r.is_stmt; basic_block = r.basic_block; prologue_end = r.prologue_end; epilogue_begin = r.epilogue_begin; isa = r.isa; discriminator = r.discriminator }

-- a step
abbrev pub step_view : LineStep → rows.LineStep
step_view (Start a) = rows.start a
step_view (Row r) = rows.row r
step_view (End e) = rows.end e

-- what one instruction shows: nothing, a step, or a row out of range
abbrev pub shown_view : Shown → Option (Option rows.LineStep)
shown_view Nothing = None
shown_view (Step s) = Some (Some (step_view s))
shown_view OutOfRange = Some None

-- the registers, with an offset of at most 2 ^ 64 - 1
abbrev pub capped : rows.Registers → rows.Registers
capped r = record r { offset = min r.offset (2 ^ 64 - 1) }

-- the row of the registers, where it is in range
abbrev pub shown_row : rows.Registers → Option LineRow
shown_row r = if rows.is_in_range (rows.appends r) then Some (rows.row_of r) else None

-- the offset of an end, where it is in range
abbrev pub end_view : ℕ → Option ℕ
end_view offset = if nat_lt offset (2 ^ 32) then Some offset else None

-- an effect as a step, where it is in range
abbrev pub shown_step : rows.Effect → Option rows.LineStep
shown_step e = if rows.is_in_range e then Some (rows.step_of e) else None

-- what some instructions show, from some registers on
unfoldable pub shown_steps : spec.LineHeader → rows.Registers → List spec.Instruction → List (Option rows.LineStep)
shown_steps h r is = map shown_step (rows.effects h r is)
