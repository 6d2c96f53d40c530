use Rattle.std.proofs.Common.{ap, arith, length}
use Rattle.dwc_kept.proofs.KeptNumbers.{nodes-length}
use Rattle.dwc_kept.proofs.graph.closure.Goals as goal

pub least_marks-requires-clause-each : goal.least_marks-requires-clause-each
least_marks-requires-clause-each c = omega (arith, c.requires, nodes-length 0 c.graph.inside.entries.items c.graph.inside.targets.items, ap length c.graph.view_is, ap length c.deref.ensures.value)
