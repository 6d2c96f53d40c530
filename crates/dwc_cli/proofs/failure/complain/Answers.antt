use Rattle.dwc_cli.specs.Failures.{failure_message}
use Rattle.dwc_cli.proofs.Lines.{Appended-line}
use Rattle.dwc_cli.proofs.failure.complain.Goals as goal

pub returns-clause-line : goal.returns-clause-line
returns-clause-line g c =
    let message = rw c.as_bytes.ensures.value at c.in_ok-write_all-2.ensures.whole in
    Appended-line _ (g.E.Sink.written c.write_all.new.sink) (g.E.Sink.written c.write_all-2.new.sink) (g.E.Sink.written c.write_all-3.new.sink) _ c.message.result.0.now c.message.result.1.now (failure_message c.args.failure.now) c.in_ok-write_all.ensures.whole message c.in_ok-write_all-3.ensures.whole c.in_ok-write_all-4.ensures.whole c.message.ensures.text
