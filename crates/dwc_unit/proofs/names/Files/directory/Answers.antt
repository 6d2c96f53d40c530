use Rattle.std.proofs.Common.{ap, ◌∙◌, arith, length, []}
use Rattle.dwc_dwarf.specs.LineHeaders.{LineFile}
use Rattle.dwc_unit.proofs.NameLaws.{files-at, files-length}
use Rattle.dwc_unit.proofs.names.Files.directory.Goals as goal

pub index-requires : goal.index-requires
index-requires c = omega (arith, c.requires, files-length c.self.inside.names c.self.inside.directories.items c.self.invariant, ap length c.self.view_is, c.self.inside.directories.ok.0, c.self.inside.directories.ok.1)

pub returns : goal.returns
returns c = λ f. rw (← c.self.view_is) (c.index.ensures ∙ ap (λ (x : LineFile). x.directory) (files-at c.self.inside.names c.self.inside.directories.items c.args.i f [] c.index.result.now c.self.invariant (omega (arith, c.requires, files-length c.self.inside.names c.self.inside.directories.items c.self.invariant, ap length c.self.view_is))))
