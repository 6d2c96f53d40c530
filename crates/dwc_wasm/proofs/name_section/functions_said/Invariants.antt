use Rattle.std.proofs.Common.{◌≡◌, ◌++◌, map, length}
use Rattle.std.specs.List.{flat_map}
use Rattle.dwc_base.specs.WasmNames.{name_map_at, said_in}
use Rattle.dwc_base.specs.TranslationNames.{function_name_view}
use Rattle.dwc_wasm.proofs.NameWalk.{said_from}
use Rattle.dwc_wasm.proofs.name_section.functions_said.Given as goal

-- what is said so far, and what is left to be said, is all
abbrev pub invariant-loop-subsection : goal.invariant-loop-subsection
invariant-loop-subsection l = map function_name_view l.said.items ++ flat_map (λ names. names) (said_from 1 name_map_at l.cursor) ≡ flat_map (λ names. names) (said_in 1 name_map_at l.bytes)

abbrev pub decreases-loop-subsection : goal.decreases-loop-subsection
decreases-loop-subsection l = length l.cursor.left
