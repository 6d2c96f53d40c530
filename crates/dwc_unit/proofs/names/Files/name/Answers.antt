use Rattle.std.proofs.Common.{ap, ◌∙◌, arith, length}
use Rattle.dwc_dwarf.specs.LineHeaders.{LineFile}
use Rattle.dwc_unit.proofs.NameLaws.{files-at, files-length}
use Rattle.dwc_unit.proofs.names.Files.name.Goals as goal

pub get-requires : goal.get-requires
get-requires c = omega (arith, c.requires, files-length c.self.inside.names c.self.inside.directories.items c.self.invariant, ap length c.self.view_is, c.self.invariant)

pub returns : goal.returns
returns c = λ f. rw (← c.self.view_is) (c.get.ensures ∙ ap (λ (x : LineFile). x.name) (files-at c.self.inside.names c.self.inside.directories.items c.args.i f c.get.result.now 0 c.self.invariant (omega (arith, c.requires, files-length c.self.inside.names c.self.inside.directories.items c.self.invariant, ap length c.self.view_is))))
