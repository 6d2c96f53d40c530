use Rattle.std.proofs.Common.{◌≡◌, ◌++◌, map}
use Rattle.dwc_base.specs.Reading.{uleb_at}
use Rattle.dwc_base.specs.TranslationNames.{param_types, local_types_view}
use Rattle.dwc_base.specs.WasmFunctions.{body_at, all_local_types}
use Rattle.dwc_base.specs.WasmVectors.{readable_counted}
use Rattle.dwc_wasm.proofs.functions.all_functions.Given as goal

-- the functions so far, and those of the numbers and bodies that can still be read, are all
abbrev pub invariant-loop-number : goal.invariant-loop-number
invariant-loop-number l = map local_types_view l.functions.items ++ all_local_types (map param_types l.types) (readable_counted l.numbers.left uleb_at l.numbers.cursor) (readable_counted l.bodies.left body_at l.bodies.cursor) ≡ all_local_types (map param_types l.fn.types) (readable_counted l.fn.numbers.left uleb_at l.fn.numbers.cursor) (readable_counted l.fn.bodies.left body_at l.fn.bodies.cursor)

abbrev pub decreases-loop-number : goal.decreases-loop-number
decreases-loop-number l = l.numbers.left
