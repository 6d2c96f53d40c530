use Rattle.dwc_read.specs.Faults.{fault_seen}
use Rattle.dwc_kept.proofs.RangeCodeLaws.{begin-read, begin-told}
use Rattle.dwc_kept.proofs.range_code.begins_at_index.Goals as goal

pub returns-in-Ok : goal.returns-in-Ok
returns-in-Ok c = let u = c.args.unit.now in rw c.can_translate.ensures (begin-read u.sections u.header c.args.index c.args.transform.now c.args.offset c.in-Ok.address c.in-Ok.ensures.address)

pub returns-in-Err : goal.returns-in-Err
returns-in-Err c = let u = c.args.unit.now in begin-told u.sections u.header c.args.index c.args.offset (fault_seen c.in-Err.fault) (fault_seen c.at.result) c.at.ensures c.in-Err.ensures.address
