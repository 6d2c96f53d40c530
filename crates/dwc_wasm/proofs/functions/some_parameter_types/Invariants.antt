use Rattle.std.proofs.Common.{◌≡◌, ◌++◌, map}
use Rattle.dwc_base.specs.TranslationNames.{param_types}
use Rattle.dwc_base.specs.WasmFunctions.{parameter_types_at}
use Rattle.dwc_base.specs.WasmVectors.{readable_counted, readable_vector}
use Rattle.dwc_wasm.proofs.functions.some_parameter_types.Given as goal

-- the types so far, and those that can still be read, are all
abbrev pub invariant-loop-parameters : goal.invariant-loop-parameters
invariant-loop-parameters l = map param_types l.lent.items ++ readable_counted l.types.left parameter_types_at l.types.cursor ≡ readable_vector parameter_types_at l.fn.cursor

abbrev pub decreases-loop-parameters : goal.decreases-loop-parameters
decreases-loop-parameters l = l.types.left
