use Rattle.std.proofs.Common.{◌≡◌, ◌-◌, ◌+◌, ◌≤◌, length}
use Rattle.dwc_base.specs.Wasm.{type_numbers_at}
use Rattle.dwc_wasm.proofs.ImportLaws.{with_more}
use Rattle.dwc_wasm.proofs.walk.type_numbers.Given as goal

-- the numbers so far, and those that are still unread, are all; each took a byte at least
abbrev pub invariant-loop : goal.invariant-loop
invariant-loop l = record { counted : with_more l.numbers (type_numbers_at (l.count - l.counter) l.cursor) ≡ type_numbers_at l.fn.count l.fn.cursor; room : l.numbers + length l.cursor.left ≤ length l.fn.cursor.left }
