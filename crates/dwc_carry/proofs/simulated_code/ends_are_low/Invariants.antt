use Rattle.std.proofs.Common.{All, drop}
use Rattle.dwc_carry.specs.SimulatedCode.{HasLowEnd}
use Rattle.dwc_carry.proofs.simulated_code.ends_are_low.Given as goal

abbrev pub invariant-loop-function : goal.invariant-loop-function
invariant-loop-function l = All HasLowEnd (drop l.function-index l.functions) → All HasLowEnd l.functions
