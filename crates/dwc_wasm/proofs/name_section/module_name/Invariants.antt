use Rattle.std.proofs.Common.{◌≡◌, length}
use Rattle.std.specs.Prelude.{option_map}
use Rattle.std.specs.Option.{option_or}
use Rattle.dwc_base.specs.Wasm.{name_at, last_of}
use Rattle.dwc_base.specs.WasmNames.{said_in}
use Rattle.dwc_wasm.proofs.NameWalk.{said_from}
use Rattle.dwc_wasm.proofs.name_section.module_name.Given as goal

-- the last that is left to be said, or else that found, is the last of all
abbrev pub invariant-loop-subsection : goal.invariant-loop-subsection
invariant-loop-subsection l = option_or (last_of (said_from 0 name_at l.cursor)) (option_map (λ t. t.now) l.found) ≡ last_of (said_in 0 name_at l.bytes)

abbrev pub decreases-loop-subsection : goal.decreases-loop-subsection
decreases-loop-subsection l = length l.cursor.left
