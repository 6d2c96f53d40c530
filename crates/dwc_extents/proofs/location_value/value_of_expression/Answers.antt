use Rattle.std.proofs.Common.{◌∙◌, Ok, Some, ap, sym, subst}
use Rattle.std.specs.Prelude.{option_map, Option, Result}
use Rattle.std.proofs.lemmas.Result.{err_from_is_err_and}
use Rattle.dwc_rules.specs.LocationAttributes.{LocationRefusal, value_of_parts}
use Rattle.dwc_dwarf.specs.Trees.{TreeValue, expression}
use Rattle.dwc_extents.specs.InForceSeen.{in_force_view}
use Rattle.dwc_extents.specs.LocationValues.{GivesLocationValue, expression_at, told}
use Rattle.dwc_extents.proofs.LocationValueLaws.{value-of-base, value-of-other, value-told}
use Rattle.dwc_extents.proofs.location_value.value_of_expression.Goals as goal

pub returns-in_err-parts : goal.returns-in_err-parts
returns-in_err-parts g c =
    let e = in_force_view c.args.transform.now ((goal.TargetIsa-dyn g c.args.isa.now).dwarf_registers c.args.isa.now.1) c.args.in_force.now in
    let p = err_from_is_err_and c.from_residual.result c.from_residual.ensures.1 in
    rw (p.1, p.2) (value-told c.args.name e (expression_at c.args.bytes.now c.args.place) (option_map (λ x. x.now) c.base_for.result) c.base_for.ensures (told c.in_err-parts.field-0.0) c.in_err-parts.ensures)

pub returns-then-name-eq-DW_AT_frame_base : goal.returns-then-name-eq-DW_AT_frame_base
returns-then-name-eq-DW_AT_frame_base g c =
    let e = in_force_view c.args.transform.now ((goal.TargetIsa-dyn g c.args.isa.now).dwarf_registers c.args.isa.now.1) c.args.in_force.now in
    value-of-base c.args.name e (expression_at c.args.bytes.now c.args.place) (option_map (λ x. x.now) c.base_for.result) c.base_for.ensures c.if-name-eq-DW_AT_frame_base.true c.in_ok-parts.parts c.in_ok-parts.ensures
    ∙ ap {B = Result (Option TreeValue) LocationRefusal} (λ bytes. Ok (Some (expression bytes))) (sym c.in_ok-output_frame_base.ensures)

pub returns-in-Some : goal.returns-in-Some
returns-in-Some g c =
    let e = in_force_view c.args.transform.now ((goal.TargetIsa-dyn g c.args.isa.now).dwarf_registers c.args.isa.now.1) c.args.in_force.now in
    let value = value-of-other c.args.name e (expression_at c.args.bytes.now c.args.place) (option_map (λ x. x.now) c.base_for.result) c.base_for.ensures c.if-name-eq-DW_AT_frame_base.false c.in_ok-parts.parts c.in_ok-parts.ensures ∙ ap (value_of_parts c.args.name e) c.in-Some.is in
    subst (λ r. GivesLocationValue r c.value_of_parts.result) (sym value) c.value_of_parts.ensures

pub returns-in-None : goal.returns-in-None
returns-in-None g c =
    let e = in_force_view c.args.transform.now ((goal.TargetIsa-dyn g c.args.isa.now).dwarf_registers c.args.isa.now.1) c.args.in_force.now in
    value-of-other c.args.name e (expression_at c.args.bytes.now c.args.place) (option_map (λ x. x.now) c.base_for.result) c.base_for.ensures c.if-name-eq-DW_AT_frame_base.false c.in_ok-parts.parts c.in_ok-parts.ensures
    ∙ ap (value_of_parts c.args.name e) c.in-None.is
