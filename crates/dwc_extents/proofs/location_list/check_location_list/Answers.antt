use Rattle.std.proofs.Common.{map, subst}
use Rattle.std.proofs.lemmas.Result.{err_from_is_err_and}
use Rattle.dwc_dwarf.specs.Lists.{list_source}
use Rattle.dwc_rules.specs.LocationAttributes.{read_locations}
use Rattle.dwc_read.specs.ValuesSeen.{value_view}
use Rattle.dwc_extents.specs.InForceSeen.{in_force_view}
use Rattle.dwc_extents.specs.LocationListValues.{listed_view}
use Rattle.dwc_extents.specs.LocationValues.{RefusesTold, told}
use Rattle.dwc_extents.proofs.LocationListLaws.{read-told-by}
use Rattle.dwc_extents.proofs.location_list.check_location_list.Goals as goal

pub returns-in_err-check_intervals : goal.returns-in_err-check_intervals
returns-in_err-check_intervals c = λ functions registers.
    let p = err_from_is_err_and c.from_residual-in_err-check_intervals.result c.from_residual-in_err-check_intervals.ensures.1 in
    rw (p.1, p.2) (read-told-by (list_source c.args.unit.now.sections c.args.unit.now.header) (in_force_view functions registers c.args.in_force.now) c.args.offset (value_view c.args.value) (map listed_view c.in_ok-intervals.intervals.items) c.in_ok-intervals.ensures (told c.in_err-check_intervals.field-0.0) (subst (λ xs. RefusesTold (read_locations (in_force_view functions registers c.args.in_force.now) (map listed_view xs)) (told c.in_err-check_intervals.field-0.0)) c.deref.ensures.value (c.in_err-check_intervals.ensures functions registers)))
