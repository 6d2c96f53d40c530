use Rattle.std.proofs.Common.{◌≡◌, ◌-◌, ◌++◌}
use Rattle.dwc_base.specs.Reading.{seen_as, counted_at}
use Rattle.dwc_base.specs.WasmFunctions.{local_group_at}
use Rattle.dwc_wasm.proofs.functions.some_groups.Given as goal

-- the groups so far, and those that are still unread, are all
abbrev pub invariant-loop : goal.invariant-loop
invariant-loop l = seen_as (λ ys. l.groups.items ++ ys) (counted_at (l.count - l.counter) local_group_at l.body) ≡ counted_at l.fn.count local_group_at l.fn.body
