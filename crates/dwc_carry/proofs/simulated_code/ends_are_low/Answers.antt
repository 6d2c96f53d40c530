use Rattle.std.proofs.Common.{subst}
use Rattle.dwc_carry.specs.SimulatedCode.{HasLowEnd}
use Rattle.dwc_carry.proofs.SimulatedFunctionSteps.{all-more}
use Rattle.dwc_carry.proofs.simulated_code.ends_are_low.Goals as goal

pub loop-function-preserved : goal.loop-function-preserved
loop-function-preserved c = λ rest. all-more HasLowEnd c.args.functions.now c.loop-function.function-index c.function-item.result c.loop-function-test.true c.loop-function.invariant (subst HasLowEnd c.function-item.is c.end_is_low.ensures) rest
