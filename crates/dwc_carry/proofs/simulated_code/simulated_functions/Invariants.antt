use Rattle.std.proofs.Common.{◌≡◌, ◌++◌, drop, map}
use Rattle.dwc_image.specs.SimulatedSequences.{simulated_view}
use Rattle.dwc_clone.specs.BegunNumbers.{is_noted}
use Rattle.dwc_carry.specs.SimulatedCode.{left_in}
use Rattle.dwc_carry.proofs.simulated_code.simulated_functions.Given as goal

abbrev pub invariant-loop-i : goal.invariant-loop-i
invariant-loop-i l =
    map simulated_view l.simulated.items ++ left_in (is_noted l.translated) (drop l.i l.compilation.translations) (drop l.i l.transforms) ≡ left_in (is_noted l.translated) l.compilation.translations l.transforms
