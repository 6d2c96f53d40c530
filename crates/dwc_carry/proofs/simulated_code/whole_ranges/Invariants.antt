use Rattle.std.proofs.Common.{drop, map}
use Rattle.dwc_image.specs.SimulatedSequences.{simulated_view}
use Rattle.dwc_carry.specs.SimulatedCode.{intervals_of}
use Rattle.dwc_carry.proofs.SimulatedFunctionSteps.{RangesSoFar}
use Rattle.dwc_carry.proofs.simulated_code.whole_ranges.Given as goal

abbrev pub invariant-loop-function : goal.invariant-loop-function
invariant-loop-function l = RangesSoFar (intervals_of (map simulated_view l.functions)) (map simulated_view (drop l.function-index l.functions)) l.ranges.items
