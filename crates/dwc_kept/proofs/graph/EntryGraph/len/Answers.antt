use Rattle.std.proofs.Common.{ap, arith, length}
use Rattle.dwc_kept.proofs.KeptNumbers.{nodes-length}
use Rattle.dwc_kept.proofs.graph.EntryGraph.len.Goals as goal

pub returns : goal.returns
returns c = omega (arith, c.len.ensures, nodes-length 0 c.self.inside.entries.items c.self.inside.targets.items, ap length c.self.view_is, c.self.inside.entries.ok.0, c.self.inside.entries.ok.1)
