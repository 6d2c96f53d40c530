use Rattle.std.proofs.lemmas.Result.{err_from_is_err_and}
use Rattle.dwc_extents.specs.InForceSeen.{in_force_view}
use Rattle.dwc_extents.specs.LocationValues.{told}
use Rattle.dwc_extents.proofs.LocationListLaws.{read-more, read-refused, read-whole}
use Rattle.dwc_extents.proofs.location_list.check_intervals.Goals as goal

pub returns-in_err-check_interval : goal.returns-in_err-check_interval
returns-in_err-check_interval c = λ functions registers.
    let l = c.loop-interval in
    let p = err_from_is_err_and c.from_residual.result c.from_residual.ensures.1 in
    rw (p.1, p.2) (read-refused (in_force_view functions registers c.args.in_force.now) c.args.intervals.now l.interval-index _ c.loop-interval-test.true _ (l.invariant functions registers) (told c.in_err-check_interval.field-0.0) c.in_err-check_interval.ensures)

pub loop-interval-preserved : goal.loop-interval-preserved
loop-interval-preserved c = λ functions registers.
    let l = c.loop-interval in
    read-more (in_force_view functions registers c.args.in_force.now) c.args.intervals.now l.interval-index _ c.loop-interval-test.true _ (l.invariant functions registers) c.in_ok-check_interval.ensures

pub returns : goal.returns
returns c = λ functions registers.
    let l = c.loop-interval in
    read-whole (in_force_view functions registers c.args.in_force.now) c.args.intervals.now l.interval-index c.loop-interval-test.false _ (l.invariant functions registers)
