use Rattle.std.proofs.Common.{◌≡◌, ◌++◌, length}
use Rattle.hex.specs.Hex.{encode_lower}
use Rattle.dwc_cli.specs.Calls.{failures}
use Rattle.dwc_cli.specs.Edge.{Sends}
use Rattle.dwc_cli.proofs.printing.print_hex.Given as goal

-- the bytes so far are printed, and those to come are to be held behind what is
abbrev pub invariant-loop-rest : goal.invariant-loop-rest
invariant-loop-rest g l = record {
  printed : Sends (g.K.Sink.written l.fn.sink) l.fn.page (g.K.Sink.written l.sink) (l.page ++ encode_lower l.rest) (encode_lower l.bytes);
  same : g.K.Sink.faults l.sink ≡ g.K.Sink.faults l.fn.sink;
  well : failures (g.K.Sink.asked l.sink) ≡ failures (g.K.Sink.asked l.fn.sink);
}

abbrev pub decreases-loop-rest : goal.decreases-loop-rest
decreases-loop-rest g l = length l.rest
