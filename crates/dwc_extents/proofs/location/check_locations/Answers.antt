use Rattle.std.proofs.Common.{None, subst, sym}
use Rattle.dwc_rules.specs.EntryRules.{code_value_becomes}
use Rattle.dwc_read.specs.ValuesSeen.{value_view}
use Rattle.dwc_extents.specs.CodeSources.{source_with}
use Rattle.dwc_source.specs.Errors.{refusal_told}
use Rattle.dwc_extents.specs.InForceSeen.{in_force_view}
use Rattle.dwc_source.specs.MadeValues.{RefusesSo}
use Rattle.dwc_extents.proofs.LocationLaws.{list-made, list-unread, listed-told, wrapped-becomes}
use Rattle.dwc_extents.proofs.location.check_locations.Goals as goal

pub returns-in-Ok : goal.returns-in-Ok
returns-in-Ok c = λ registers s e before name at wrapped is.
    let source = c.args.source.now in
    let x = source_with registers source s in
    let force = in_force_view source.transform.now registers c.args.in_force.now in
    let v = value_view c.args.value in
    record { drafted = None; is = list-made x e before name v _ (λ done. None) (wrapped-becomes x e before c.args.offset at force is name v c.requires.list wrapped) c.in-Ok.field-0 (c.in-Ok.ensures source.transform.now registers); made = Rattle.std.proofs.Common.refl }

pub returns-in-Err-List : goal.returns-in-Err-List
returns-in-Err-List c = λ registers s e before name at wrapped is.
    let source = c.args.source.now in
    let x = source_with registers source s in
    let force = in_force_view source.transform.now registers c.args.in_force.now in
    let v = value_view c.args.value in
    subst (λ told. RefusesSo (code_value_becomes x e before name v) (refusal_told told)) (sym c.from.ensures)
    (list-unread x e before name v _ (λ done. None) (wrapped-becomes x e before c.args.offset at force is name v c.requires.list wrapped) c.in-Err-List.field-0 c.in-Err-List.fault c.in-Err-List.field-0-is (c.in-Err-List.ensures source.transform.now registers))

pub returns-in-Err-Expression : goal.returns-in-Err-Expression
returns-in-Err-Expression c = λ registers s e before name at wrapped is.
    let source = c.args.source.now in
    let x = source_with registers source s in
    let force = in_force_view source.transform.now registers c.args.in_force.now in
    let v = value_view c.args.value in
    listed-told x e before name v _ (λ done. None) (wrapped-becomes x e before c.args.offset at force is name v c.requires.list wrapped) c.in-Err-Expression.field-0 c.in-Err-Expression.error c.in-Err-Expression.field-0-is (c.in-Err-Expression.ensures source.transform.now registers) (refusal_told c.of_expression.result) c.of_expression.ensures
