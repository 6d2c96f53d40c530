use Rattle.std.proofs.Common.{◌≡◌, [], drop, false, map}
use Rattle.dwc_rules.specs.LocationAttributes.{InForce, built_for_each}
use Rattle.dwc_extents.specs.InForceSeen.{in_force_view}
use Rattle.dwc_extents.specs.LocationListValues.{listed_view, some_where}
use Rattle.dwc_extents.specs.LocationValues.{locations_view}
use Rattle.dwc_extents.proofs.LocationListLaws.{behind}
use Rattle.dwc_extents.proofs.location_list.built_intervals.Given as goal

-- What was put, in front of what is built for the intervals that are left, is the whole; and where none was supported nothing was put.
abbrev pub invariant-loop-interval : goal.invariant-loop-interval
invariant-loop-interval g l =
    let e : InForce = in_force_view l.transform ((goal.TargetIsa-dyn g l.isa.now).dwarf_registers l.isa.now.1) l.in_force in
    (behind (some_where l.supported (locations_view l.locations)) (built_for_each e (map listed_view (drop l.interval-index l.intervals))) ≡ built_for_each e (map listed_view l.intervals))
    × (l.supported ≡ false → l.locations.items ≡ [])
