use Rattle.std.proofs.Common.{◌≡◌, ◌-◌, ◌+◌, ◌≤◌, length}
use Rattle.dwc_base.specs.Wasm.{imports_at}
use Rattle.dwc_wasm.proofs.ImportLaws.{with_more}
use Rattle.dwc_wasm.proofs.imports.imported_functions.Given as goal

-- the functions so far, and those among the imports that are still unread, are all; each import took a byte at least
abbrev pub invariant-loop : goal.invariant-loop
invariant-loop l = record { counted : with_more l.functions (imports_at (l.count - l.counter) l.cursor) ≡ imports_at l.fn.count l.fn.cursor; room : l.functions + length l.cursor.left ≤ length l.fn.cursor.left }
