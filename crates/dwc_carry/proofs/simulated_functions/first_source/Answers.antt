use Rattle.std.proofs.Common.{sym, ◌∙◌}
use Rattle.dwc_carry.proofs.FunctionSteps.{first-absent, first-there}
use Rattle.dwc_carry.proofs.simulated_functions.first_source.Goals as goal

pub returns-in-Some : goal.returns-in-Some
returns-in-Some c = rw c.from.ensures (first-there c.args.function.now c.in-Some.entry (sym c.get.ensures ∙ c.in-Some.is))

pub returns-in-None : goal.returns-in-None
returns-in-None c = first-absent c.args.function.now (sym c.get.ensures ∙ c.in-None.is)
