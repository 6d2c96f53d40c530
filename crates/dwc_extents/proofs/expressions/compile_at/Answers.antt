use Rattle.std.proofs.Common.{sym, subst}
use Rattle.std.specs.Prelude.{option_map}
use Rattle.dwc_rules.specs.LocationAttributes.{compiled_at}
use Rattle.dwc_extents.specs.LocationValues.{RefusesTold, expression_at, told}
use Rattle.dwc_extents.proofs.LocationValueLaws.{compiled-is, compiled-told}
use Rattle.dwc_extents.proofs.expressions.compile_at.Goals as goal

pub returns-in-Ok : goal.returns-in-Ok
returns-in-Ok c = compiled-is (option_map (λ x. x.now) c.args.base) (expression_at c.args.bytes.now c.args.place) c.in-Ok.parts c.in-Ok.ensures.parts

pub returns-in-Err : goal.returns-in-Err
returns-in-Err c =
    let base = option_map (λ x. x.now) c.args.base in
    subst (λ e. RefusesTold (compiled_at base (expression_at c.args.bytes.now c.args.place)) (told e)) (sym c.at_place.ensures) (compiled-told base c.args.bytes.now c.args.place c.in-Err.error c.in-Err.ensures.parts)
