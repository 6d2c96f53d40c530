use Rattle.dwc_cli.specs.Failures.{failure_message}
use Rattle.dwc_cli.proofs.Lines.{Tells-written}
use Rattle.dwc_cli.proofs.command.refuse.Goals as goal

pub returns-clause-said : goal.returns-clause-said
returns-clause-said g c = Tells-written c.complain.result _ _ _ _ (failure_message c.args.failure.now) c.complain.ensures.line c.complain.ensures.cause
