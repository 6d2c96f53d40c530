use Rattle.std.proofs.Common.{arith}
use Rattle.dwc_unit.proofs.AttributeLaws.{within, index-set}
use Rattle.dwc_unit.proofs.attributes.Attributes.replace.Goals as goal

pub index_mut-requires : goal.index_mut-requires
index_mut-requires c = omega (arith, within c.self.inside.list.items c.args.attribute.name c.args.place (rw (← c.self.view_is) at c.requires), c.self.inside.list.ok.0, c.self.inside.list.ok.1)

pub invariant_of-self : goal.invariant_of-self
invariant_of-self c = index-set c.self.inside.list.items c.args.place c.args.attribute c.self.inside.places (rw (← c.self.view_is) at c.requires) c.self.invariant
