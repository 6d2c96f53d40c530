use Rattle.std.proofs.Common.{◌≡◌, ◌-◌}
use Rattle.dwc_dwarf.specs.LineHeaders.{passed_operands_at}
use Rattle.dwc_tabs.proofs.instruction.pass_operands.Given as goal

-- those that are left to pass give what all give
abbrev pub invariant-loop : goal.invariant-loop
invariant-loop l = passed_operands_at (l.count - l.counter) l.cursor ≡ passed_operands_at l.fn.count l.fn.cursor
