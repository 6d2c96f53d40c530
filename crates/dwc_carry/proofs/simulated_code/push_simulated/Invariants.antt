use Rattle.std.proofs.Common.{◌≡◌, ◌++◌, drop, map}
use Rattle.dwc_addr.specs.Transforms.{function_view}
use Rattle.dwc_image.specs.SimulatedSequences.{simulated_view}
use Rattle.dwc_clone.specs.BegunNumbers.{is_noted}
use Rattle.dwc_carry.specs.SimulatedCode.{left_of}
use Rattle.dwc_carry.proofs.simulated_code.push_simulated.Given as goal

abbrev pub invariant-loop-function : goal.invariant-loop-function
invariant-loop-function l =
    map simulated_view l.simulated.items ++ left_of (is_noted l.translated) l.code_offset (map function_view (drop l.function-index l.functions)) ≡ map simulated_view l.fn.simulated.items ++ left_of (is_noted l.translated) l.code_offset (map function_view l.functions)
