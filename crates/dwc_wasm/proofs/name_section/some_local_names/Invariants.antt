use Rattle.std.proofs.Common.{◌≡◌, ◌-◌, ◌++◌, map}
use Rattle.std.specs.List.{flat_map}
use Rattle.dwc_base.specs.Reading.{seen_as, counted_at}
use Rattle.dwc_base.specs.WasmNames.{local_name_map_at}
use Rattle.dwc_base.specs.TranslationNames.{local_name_view}
use Rattle.dwc_wasm.proofs.name_section.some_local_names.Given as goal

-- the names so far, and those that are still unread, are all
abbrev pub invariant-loop : goal.invariant-loop
invariant-loop l = seen_as (λ maps. map local_name_view l.names.items ++ flat_map (λ names. names) maps) (counted_at (l.count - l.counter) local_name_map_at l.cursor) ≡ seen_as (flat_map (λ names. names)) (counted_at l.fn.count local_name_map_at l.fn.cursor)
