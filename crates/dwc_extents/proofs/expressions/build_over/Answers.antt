use Rattle.dwc_extents.specs.InForceSeen.{in_force_view}
use Rattle.dwc_extents.proofs.LocationValueLaws.{built-told}
use Rattle.dwc_extents.proofs.expressions.build_over.Goals as goal

pub returns : goal.returns
returns g c = built-told (in_force_view c.args.transform.now ((goal.TargetIsa-dyn g c.args.isa.now).dwarf_registers c.args.isa.now.1) c.args.in_force.now).surroundings c.args.scope.now c.args.parts.now c.build_with_locals.result c.build_with_locals.ensures.built
