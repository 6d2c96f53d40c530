use Rattle.std.proofs.Common.{subst}
use Rattle.dwc_dwarf.specs.Indexed.{address_in_unit}
use Rattle.dwc_read.specs.Faults.{fault_seen, Refuses}
use Rattle.dwc_tabs.proofs.GivenLaws.{indexed-ok, indexed-unsupported, indexed-unreadable}
use Rattle.dwc_tabs.proofs.entry_given.address_at.Goals as goal

pub returns-in-Ok : goal.returns-in-Ok
returns-in-Ok c = let u = c.args.unit.now in indexed-ok u.sections u.header c.args.start c.args.index c.in-Ok.address c.in-Ok.ensures.address

pub returns-in-Err-Unsupported : goal.returns-in-Err-Unsupported
returns-in-Err-Unsupported c =
    let u = c.args.unit.now in
    let h = subst (λ e. Refuses (address_in_unit u.sections u.header c.args.index) (fault_seen e)) c.in-Err-Unsupported.field-0-is c.in-Err-Unsupported.ensures.address in
    indexed-unsupported u.sections u.header c.args.start c.args.index c.in-Err-Unsupported.what _ h

pub returns-in-Err-Read : goal.returns-in-Err-Read
returns-in-Err-Read c =
    let u = c.args.unit.now in
    let h = subst (λ e. Refuses (address_in_unit u.sections u.header c.args.index) (fault_seen e)) c.in-Err-Read.field-0-is c.in-Err-Read.ensures.address in
    rw c.unreadable.ensures (indexed-unreadable u.sections u.header c.args.start c.args.index _ _ _ h)
