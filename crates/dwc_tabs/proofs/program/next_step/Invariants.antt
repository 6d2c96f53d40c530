use Rattle.std.proofs.Common.{◌≡◌, length}
use Rattle.dwc_tabs.specs.Steps.{registers_view}
use Rattle.dwc_tabs.specs.Programs.{CanRun, steps_from}
use Rattle.dwc_tabs.proofs.program.next_step.Given as goal

-- the rest can be run, and its steps are those that were left
abbrev pub invariant-loop-cursor : goal.invariant-loop-cursor
invariant-loop-cursor l = record {
  runs : CanRun l.parameters l.relocations (registers_view l.registers) l.cursor;
  same : steps_from l.parameters l.relocations (registers_view l.registers) l.cursor ≡ steps_from l.parameters l.relocations (registers_view l.fn.registers) l.fn.cursor;
}

abbrev pub decreases-loop-cursor : goal.decreases-loop-cursor
decreases-loop-cursor l = length l.cursor.left
