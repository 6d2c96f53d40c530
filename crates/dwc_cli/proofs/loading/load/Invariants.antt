use Rattle.std.proofs.Common.{◌≡◌, ◌≤◌, max, vec_len}
use Rattle.dwc_cli.specs.RunStatus.{most_bytes}
use Rattle.dwc_cli.proofs.CallLaws.{IsOpen}
use Rattle.dwc_cli.proofs.Loads.{IsFrontOf}
use Rattle.dwc_cli.proofs.loading.load.Given as goal

abbrev pub invariant-loop : goal.invariant-loop
invariant-loop g l = record {
  files : g.S.Source.files l.source ≡ g.S.Source.files l.fn.source;
  front : IsFrontOf (g.S.Source.files l.fn.source) (g.S.Source.left l.source) l.path l.bytes.items;
  taken : g.S.Source.taken l.source ≡ vec_len l.bytes;
  longest : g.S.Source.longest l.source ≡ max (g.S.Source.longest l.fn.source) (vec_len l.bytes);
  counted : l.counter ≤ vec_len l.bytes;
  within : vec_len l.bytes ≤ most_bytes;
  asked : IsOpen l.path l.bytes.items (g.S.Source.asked l.fn.source) (g.S.Source.asked l.source);
  same : g.S.Source.faults l.source ≡ g.S.Source.faults l.fn.source;
}
