use Rattle.std.proofs.Common.{◌≡◌, ◌++◌, map, drop}
use Rattle.std.specs.List.{flat_map}
use Rattle.dwc_base.specs.Outputs.{relocation_view}
use Rattle.dwc_cli.specs.Calls.{failures}
use Rattle.dwc_cli.specs.Edge.{Sends}
use Rattle.dwc_cli.specs.Printed.{printed_relocation}
use Rattle.dwc_cli.proofs.printing.print_relocations.Given as goal

-- the relocations so far are printed, and those to come are to be held behind what is
abbrev pub invariant-loop-reloc : goal.invariant-loop-reloc
invariant-loop-reloc g l = record {
  printed : Sends (g.K.Sink.written l.fn.sink) l.fn.page (g.K.Sink.written l.sink) (l.page ++ flat_map printed_relocation (map relocation_view (drop l.reloc-index l.relocs))) (flat_map printed_relocation (map relocation_view l.relocs));
  same : g.K.Sink.faults l.sink ≡ g.K.Sink.faults l.fn.sink;
  well : failures (g.K.Sink.asked l.sink) ≡ failures (g.K.Sink.asked l.fn.sink);
}
