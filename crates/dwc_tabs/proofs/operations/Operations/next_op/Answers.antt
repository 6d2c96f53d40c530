use Rattle.std.proofs.Common.{◌<◌, refl, sym, ◌∙◌, arith, length}
use Rattle.dwc_tabs.specs.Operations.{operation_view}
use Rattle.dwc_tabs.proofs.OperationLaws.{operations-more, operations-end, operations-flaw}
use Rattle.dwc_tabs.proofs.operations.Operations.next_op.Goals as goal

pub returns-then-left-eq0 : goal.returns-then-left-eq0
returns-then-left-eq0 c =
    let e = operations-end c.self.inside.cursor (sym c.left.ensures ∙ c.if-left-eq0.true) in
    rw (← c.self.view_is) (e, e)

pub returns-in-Ok : goal.returns-in-Ok
returns-in-Ok c =
    let s = c.self.inside.cursor in
    let h = rw c.fork-ahead.ensures at c.in-Ok.ensures in
    rw (← c.self.view_is, c.place-place.ensures) (operations-more s c.read_operation.new.cursor (operation_view s.place c.in-Ok.next) h)

pub returns-in-Err : goal.returns-in-Err
returns-in-Err c =
    let s = c.self.inside.cursor in
    let some : 0 < length s.left = omega (arith, c.left.ensures, c.if-left-eq0.false) in
    let h = rw c.fork-ahead.ensures at c.in-Err.ensures in
    let e = operations-flaw s c.in-Err.field-0 some h in
    rw (← c.self.view_is, c.place-place.ensures) (refl, e, e)
