use Rattle.std.proofs.Common.{◌≡◌, length, take, ◌-◌, ◌≤◌}
use Rattle.dwc_cli.specs.Calls.{failures}
use Rattle.dwc_cli.specs.RunStatus.{Appended}
use Rattle.dwc_cli.proofs.sink.write_all.Given as goal

abbrev pub invariant-loop-sent : goal.invariant-loop-sent
invariant-loop-sent g l = record {
  written : Appended (g.K.Sink.written l.fn.sink) (g.K.Sink.written l.sink) (take l.sent l.bytes);
  within : l.sent ≤ length l.bytes;
  same : g.K.Sink.faults l.sink ≡ g.K.Sink.faults l.fn.sink;
  well : failures (g.K.Sink.asked l.sink) ≡ failures (g.K.Sink.asked l.fn.sink);
}

abbrev pub decreases-loop-sent : goal.decreases-loop-sent
decreases-loop-sent g l = length l.bytes - l.sent
