use Rattle.std.proofs.Common.{◌≡◌, ◌-◌}
use Rattle.dwc_dwarf.specs.Values.{form_behind}
use Rattle.dwc_read.proofs.attribute.form_behind.Given as goal

-- what is still to be read gives what all gives
abbrev pub invariant-loop : goal.invariant-loop
invariant-loop l = form_behind (l.end - l.counter) l.cursor ≡ form_behind l.end l.fn.cursor
