use Rattle.std.proofs.Common.{◌≡◌, ◌-◌, ◌++◌, map}
use Rattle.dwc_base.specs.Reading.{seen_as, counted_at}
use Rattle.dwc_base.specs.WasmNames.{name_association_at}
use Rattle.dwc_base.specs.TranslationNames.{function_name_view}
use Rattle.dwc_wasm.proofs.name_section.some_names.Given as goal

-- the names so far, and those that are still unread, are all
abbrev pub invariant-loop : goal.invariant-loop
invariant-loop l = seen_as (λ ys. map function_name_view l.names.items ++ ys) (counted_at (l.count - l.counter) name_association_at l.cursor) ≡ counted_at l.fn.count name_association_at l.fn.cursor
