use Rattle.std.proofs.Common.{Ok, refl, sym, subst, length}
use Rattle.std.proofs.lemmas.Result.{err_from_is_err_and}
use Rattle.dwc_native.specs.Parts.{is_supported}
use Rattle.dwc_read.specs.Faults.{fault_seen}
use Rattle.dwc_tabs.specs.Operations.{operation_view, GivesNextOperation}
use Rattle.dwc_expr.specs.Compiles.{TellsPlace}
use Rattle.dwc_expr.specs.Steps.{supported_operations}
use Rattle.dwc_expr.proofs.StepLaws.{given-some, given-none, read-more, read-unsupported, read-whole, read-early, read-told, refused-at}
use Rattle.dwc_expr.proofs.compile.steps.read_steps.Goals as goal

pub loop-place-preserved : goal.loop-place-preserved
loop-place-preserved c =
    let l = c.loop-place in
    let o = operation_view c.in-Ok-Some.place c.in-Ok-Some.operation in
    let first = subst (λ x. GivesNextOperation l.operations c.next_op.new.self (Ok x)) c.in-Ok-Some.field-0-is c.in-Ok-Some.ensures in
    let given = given-some (is_supported c.args.has_base (length c.args.bytes.now) o) o c.in-Some.step c.in-Some.ensures in
    rw (c.in_ok-push-in-Some.ensures.items, given.1) (read-more c.args.has_base c.args.bytes.now l.operations l.steps.items l.invariant o c.next_op.new.self first given.0)

pub returns-in-None : goal.returns-in-None
returns-in-None c =
    let l = c.loop-place in
    let o = operation_view c.in-Ok-Some.place c.in-Ok-Some.operation in
    let first = subst (λ x. GivesNextOperation l.operations c.next_op.new.self (Ok x)) c.in-Ok-Some.field-0-is c.in-Ok-Some.ensures in
    read-unsupported c.args.has_base c.args.bytes.now l.operations l.steps.items l.invariant o c.next_op.new.self first (given-none (is_supported c.args.has_base (length c.args.bytes.now) o) o c.in-None.ensures)

pub returns-in-Ok-None : goal.returns-in-Ok-None
returns-in-Ok-None c =
    let l = c.loop-place in
    let last = subst (λ x. GivesNextOperation l.operations c.next_op.new.self (Ok x)) c.in-Ok-None.field-0-is c.in-Ok-None.ensures in
    read-whole c.args.has_base c.args.bytes.now l.operations l.steps.items l.invariant last.0

pub returns-in_err-refuse-in-Err : goal.returns-in_err-refuse-in-Err
returns-in_err-refuse-in-Err c =
    let l = c.loop-place in
    let at = refused-at l.operations c.next_op.new.self (fault_seen c.in-Err.fault) c.in-Err.ensures in
    let told = c.in_err-refuse-in-Err.ensures at.0 at.1 in
    let p = err_from_is_err_and c.from_residual-in_err-refuse-in-Err.result c.from_residual-in_err-refuse-in-Err.ensures.1 in
    rw (p.1, p.2) (subst (TellsPlace (supported_operations c.args.has_base c.args.bytes.now)) (sym told.1) (refl, refl, read-told c.args.has_base c.args.bytes.now l.operations l.steps.items l.invariant at.0 at.2 told.0))

pub returns-in-Err : goal.returns-in-Err
returns-in-Err c =
    let l = c.loop-place in
    let at = refused-at l.operations c.next_op.new.self (fault_seen c.in-Err.fault) c.in-Err.ensures in
    read-early c.args.has_base c.args.bytes.now l.operations l.steps.items l.invariant at.0 at.2 (c.in_ok-refuse-in-Err.ensures at.0 at.1)
