use Rattle.std.proofs.Common.{◌≡◌, List, drop, map}
use Rattle.dwc_native.specs.Functions.{Function}
use Rattle.dwc_rules.specs.LocationAttributes.{read_locations}
use Rattle.dwc_isa.specs.Registers.{Registers}
use Rattle.dwc_extents.specs.InForceSeen.{in_force_view}
use Rattle.dwc_extents.specs.LocationListValues.{listed_view}
use Rattle.dwc_extents.proofs.location_list.check_intervals.Given as goal

-- what is left is read as all are
abbrev pub invariant-loop-interval : goal.invariant-loop-interval
invariant-loop-interval l = (functions : List Function) (registers : Registers) → read_locations (in_force_view functions registers l.in_force) (map listed_view (drop l.interval-index l.intervals)) ≡ read_locations (in_force_view functions registers l.in_force) (map listed_view l.intervals)
