use Rattle.std.proofs.Common.{ap, arith, length}
use Rattle.dwc_unit.proofs.NameLaws.{cut-length}
use Rattle.dwc_unit.proofs.names.Names.len.Goals as goal

pub returns : goal.returns
returns c = omega (arith, c.len.ensures, cut-length 0 c.self.inside.ends.items c.self.inside.bytes.items, ap length c.self.view_is, c.self.inside.ends.ok.0, c.self.inside.ends.ok.1)
