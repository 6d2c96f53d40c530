use Rattle.std.proofs.Common.{◌≡◌, ◌++◌, map, drop}
use Rattle.dwc_base.specs.TranslationNames.{function_name_view, local_name_view}
use Rattle.dwc_wasm.proofs.name_section.names_of_function.Given as goal

-- the names so far, and those that are left, are all
abbrev pub invariant-loop-number : goal.invariant-loop-number
invariant-loop-number l = map local_name_view l.of_both.items ++ map (λ n. ((l.function, n.0), n.1)) (map function_name_view (drop l.number-index l.names)) ≡ map (λ n. ((l.function, n.0), n.1)) (map function_name_view l.names)
