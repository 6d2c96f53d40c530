use Rattle.std.proofs.Common.{ap, ◌∙◌, Ok}
use Rattle.std.proofs.lemmas.Result.{err_from_is_err_and}
use Rattle.dwc_base.proofs.ReadSteps.{number_at-from_bytes, number_at-no_bytes}
use Rattle.dwc_read.proofs.NumberLaws.{number-three}
use Rattle.dwc_read.proofs.number.three.Goals as goal

pub returns-in_err-field : goal.returns-in_err-field
returns-in_err-field c =
    let p = err_from_is_err_and c.from_residual.result c.from_residual.ensures.1 in
    let read = c.in_err-field.ensures.read in
    rw (p.1, p.2) (number_at-no_bytes _ _ _ read.0)

pub returns : goal.returns
returns c =
    rw (c.three_bytes.ensures, c.order-order.ensures) (number_at-from_bytes _ _ _ _ c.in_ok-field.ensures.read
    ∙ ap (λ n. Ok (n, c.take.new.self)) (number-three c.args.cursor.now.order c.in_ok-field.field.now c.in_ok-field.ensures.length))
