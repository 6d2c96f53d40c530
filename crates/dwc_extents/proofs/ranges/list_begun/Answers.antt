use Rattle.dwc_read.specs.Faults.{fault_seen}
use Rattle.dwc_read.specs.ValuesSeen.{value_view}
use Rattle.dwc_tabs.specs.RangeEnds.{refusal_view}
use Rattle.dwc_extents.proofs.NativeRangeLaws.{list-refused}
use Rattle.dwc_extents.proofs.ranges.list_begun.Goals as goal

pub returns-in-Ok : goal.returns-in-Ok
returns-in-Ok c = c.in-Ok.ensures c.args.offset

pub returns-in-Err : goal.returns-in-Err
returns-in-Err c =
    let u = c.args.unit.now in
    list-refused u.sections u.header (value_view c.args.value) c.args.offset (fault_seen c.in-Err.fault) (refusal_view c.told_at.result) c.in-Err.ensures c.told_at.ensures
