use Rattle.std.proofs.Common.{refl, subst, sym}
use Rattle.dwc_rules.specs.LocationAttributes.{built_for}
use Rattle.dwc_extents.specs.InForceSeen.{in_force_view}
use Rattle.dwc_extents.specs.LocationListValues.{listed_view}
use Rattle.dwc_extents.specs.LocationValues.{RefusesTold, told}
use Rattle.dwc_extents.proofs.LocationListLaws.{interval-put, interval-refused}
use Rattle.dwc_extents.proofs.location_list.put_interval.Goals as goal

pub returns-in-Ok : goal.returns-in-Ok
returns-in-Ok g c =
    let e = in_force_view c.args.transform.now ((goal.TargetIsa-dyn g c.args.isa.now).dwarf_registers c.args.isa.now.1) c.args.in_force.now in
    interval-put e (listed_view c.args.interval.now) c.args.locations.now.items c.put_locations.new.locations.items c.in-Ok.supported c.in-Ok.ensures.puts

pub returns-in-Err : goal.returns-in-Err
returns-in-Err g c =
    let e = in_force_view c.args.transform.now ((goal.TargetIsa-dyn g c.args.isa.now).dwarf_registers c.args.isa.now.1) c.args.in_force.now in
    let x = c.args.interval.now in
    subst (λ z. RefusesTold (built_for e (listed_view x)) (told z)) (sym c.at_place.ensures)
    (interval-refused e (listed_view x) c.args.locations.now.items c.put_locations.new.locations.items x.bytes.now x.place refl c.in-Err.error c.in-Err.ensures.puts)
