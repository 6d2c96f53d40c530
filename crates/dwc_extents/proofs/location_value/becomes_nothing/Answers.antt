use Rattle.std.proofs.Common.{◌∙◌, Bor, option_map, sym}
use Rattle.dwc_isa.specs.Registers.{Registers}
use Rattle.dwc_extents.specs.InForceSeen.{in_force_view}
use Rattle.dwc_extents.proofs.LocationValueLaws.{varies-nothing}
use Rattle.dwc_extents.proofs.location_value.becomes_nothing.Goals as goal

pub returns : goal.returns
returns g c = λ varies.
    let registers : Registers = (goal.TargetIsa-dyn g c.args.isa.now).dwarf_registers c.args.isa.now.1 in
    let e = in_force_view c.args.transform.now registers c.args.in_force.now in
    varies-nothing c.args.name e.surroundings c.args.scope.now c.args.parts.now (sym c.is_location_name.ensures ∙ c.if-is_location_name.false) (c.varies_over.ensures varies)
