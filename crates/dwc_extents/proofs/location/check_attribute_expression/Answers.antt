use Rattle.dwc_base.specs.declared.section_name.SectionName.TheVariants.{Info}
use Rattle.dwc_extents.specs.CodeSources.{source_with}
use Rattle.dwc_source.specs.Errors.{refusal_told}
use Rattle.dwc_extents.specs.InForceSeen.{in_force_view}
use Rattle.dwc_extents.proofs.LocationLaws.{bound-read, bound-told}
use Rattle.dwc_extents.proofs.location.check_attribute_expression.Goals as goal

pub returns-in-Ok : goal.returns-in-Ok
returns-in-Ok c = λ registers s e before at numbered is.
    let source = c.args.source.now in
    let fs = source.transform.now in
    bound-read (source_with registers source s) e before c.args.offset c.args.number at numbered (in_force_view fs registers c.args.in_force.now) is c.args.name c.args.bytes.now (Info, 0) c.in-Ok.field-0 (c.in-Ok.ensures fs registers)

pub returns-in-Err : goal.returns-in-Err
returns-in-Err c = λ registers s e before at numbered is.
    let source = c.args.source.now in
    let fs = source.transform.now in
    bound-told (source_with registers source s) e before c.args.offset c.args.number at numbered (in_force_view fs registers c.args.in_force.now) is c.args.name c.args.bytes.now (Info, 0) c.in-Err.error (refusal_told c.at_expression.result) c.at_expression.ensures (c.in-Err.ensures fs registers)
