use Rattle.std.specs.Prelude.{option_map}
use Rattle.std.proofs.lemmas.Result.{err_from_is_err_and}
use Rattle.dwc_extents.specs.InForceSeen.{in_force_view}
use Rattle.dwc_extents.specs.LocationValues.{expression_at, told}
use Rattle.dwc_extents.proofs.LocationValueLaws.{read-is, read-told}
use Rattle.dwc_extents.proofs.location_value.check_expression.Goals as goal

pub returns-in_err-compile_at : goal.returns-in_err-compile_at
returns-in_err-compile_at c = λ functions registers.
    let e = in_force_view functions registers c.args.in_force.now in
    let p = err_from_is_err_and c.from_residual.result c.from_residual.ensures.1 in
    rw (p.1, p.2) (read-told c.args.name e (expression_at c.args.bytes.now c.args.place) (option_map (λ x. x.now) c.base_for.result) c.base_for.ensures (told c.in_err-compile_at.field-0.0) c.in_err-compile_at.ensures)

pub returns : goal.returns
returns c = λ functions registers.
    let e = in_force_view functions registers c.args.in_force.now in
    read-is c.args.name e (expression_at c.args.bytes.now c.args.place) (option_map (λ x. x.now) c.base_for.result) c.base_for.ensures c.in_ok-compile_at.field-0 c.in_ok-compile_at.ensures
