use Rattle.std.proofs.Common.{All, drop}
use Rattle.dwc_carry.specs.SimulatedCode.{HasLowEnd}
use Rattle.dwc_carry.proofs.simulated_code.all_ends_are_low.Given as goal

abbrev pub invariant-loop-i : goal.invariant-loop-i
invariant-loop-i l = All (All HasLowEnd) (drop l.i l.compilation.functions) → All (All HasLowEnd) l.compilation.functions
