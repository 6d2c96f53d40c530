use Rattle.dwc_read.specs.Faults.{fault_seen}
use Rattle.dwc_kept.specs.RangeCode.{list_place}
use Rattle.dwc_kept.proofs.RangeCodeLaws.{address-read, address-told}
use Rattle.dwc_kept.proofs.range_code.address_at.Goals as goal

pub returns-in-Ok : goal.returns-in-Ok
returns-in-Ok c = let u = c.args.unit.now in address-read u.sections u.header c.args.index (list_place c.args.section c.args.offset) c.in-Ok.address c.in-Ok.ensures.address

pub returns-in-Err : goal.returns-in-Err
returns-in-Err c = let u = c.args.unit.now in address-told u.sections u.header c.args.index c.args.section c.args.offset (fault_seen c.in-Err.fault) (fault_seen c.at_list.result) c.at_list.ensures c.in-Err.ensures.address
