use Rattle.std.proofs.Common.{◌≡◌, ◌++◌, map, drop}
use Rattle.std.specs.List.{flat_map}
use Rattle.dwc_base.specs.Outputs.{section_view}
use Rattle.dwc_cli.specs.Calls.{failures}
use Rattle.dwc_cli.specs.Edge.{Sends}
use Rattle.dwc_cli.specs.Printed.{printed_section}
use Rattle.dwc_cli.proofs.printing.print_each.Given as goal

-- the sections so far are printed, and those to come are to be held behind what is
abbrev pub invariant-loop-section : goal.invariant-loop-section
invariant-loop-section g l = record {
  printed : Sends (g.K.Sink.written l.fn.sink) l.fn.page (g.K.Sink.written l.sink) (l.page ++ flat_map printed_section (map section_view (drop l.section-index l.sections))) (flat_map printed_section (map section_view l.sections));
  same : g.K.Sink.faults l.sink ≡ g.K.Sink.faults l.fn.sink;
  well : failures (g.K.Sink.asked l.sink) ≡ failures (g.K.Sink.asked l.fn.sink);
}
