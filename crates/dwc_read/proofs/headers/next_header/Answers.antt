use Rattle.std.proofs.Common.{◌<◌, length, sym, ◌∙◌, arith}
use Rattle.dwc_base.proofs.UnitWalk.{unit_headers_from-end, unit_headers_from-item, unit_headers_from-fault}
use Rattle.dwc_read.proofs.headers.next_header.Goals as goal

pub returns-then-left-eq0 : goal.returns-then-left-eq0
returns-then-left-eq0 c =
    let none = unit_headers_from-end c.args.cursor.now (sym c.left.ensures ∙ c.if-left-eq0.true) in
    (none, none)

pub returns-in-Ok : goal.returns-in-Ok
returns-in-Ok c =
    let some : 0 < length c.args.cursor.now.left = omega arith in
    unit_headers_from-item _ _ _ some (rw c.fork-ahead.ensures at c.in-Ok.ensures)

pub returns-in-Err : goal.returns-in-Err
returns-in-Err c =
    let some : 0 < length c.args.cursor.now.left = omega arith in
    let fault = unit_headers_from-fault c.args.cursor.now c.in-Err.flaw some (rw c.fork-ahead.ensures at c.in-Err.ensures) in
    rw c.place-offset.ensures (fault, fault)
