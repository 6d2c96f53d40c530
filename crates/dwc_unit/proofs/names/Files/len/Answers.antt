use Rattle.std.proofs.Common.{ap, arith, length}
use Rattle.dwc_unit.proofs.NameLaws.{files-length}
use Rattle.dwc_unit.proofs.names.Files.len.Goals as goal

pub returns : goal.returns
returns c = omega (arith, c.len.ensures, files-length c.self.inside.names c.self.inside.directories.items c.self.invariant, ap length c.self.view_is, c.self.inside.directories.ok.0, c.self.inside.directories.ok.1)
