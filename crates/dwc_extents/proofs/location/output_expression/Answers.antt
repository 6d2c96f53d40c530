use Rattle.std.proofs.lemmas.Result.{err_from_is_err_and}
use Rattle.std.proofs.Common.{◌∙◌, Some, None, refl, ap, sym, subst}
use Rattle.dwc_base.specs.declared.section_name.SectionName.TheVariants.{Info}
use Rattle.dwc_dwarf.specs.Entries.{Entry}
use Rattle.dwc_rules.specs.LocationAttributes.{LocationRefusal, drafted, value_of_expression}
use Rattle.dwc_expr.specs.Frames.{frame_view}
use Rattle.dwc_extents.specs.CodeSources.{source_with}
use Rattle.dwc_source.specs.Errors.{refusal_told}
use Rattle.dwc_extents.specs.InForceSeen.{in_force_view}
use Rattle.dwc_extents.specs.LocationValues.{expression_at, location_value_view}
use Rattle.dwc_extents.proofs.LocationLaws.{expression-made, expression-told, located-says, located-seen, nothing-says, wrapped-read, wrapped-told}
use Rattle.dwc_extents.proofs.LocationsFit.{FitsSeen, fits-expression, fits-located}
use Rattle.dwc_extents.proofs.location.output_expression.Goals as goal

pub returns-in-Ok-Some-clause-fits : goal.returns-in-Ok-Some-clause-fits
returns-in-Ok-Some-clause-fits g c = λ size.
    let fs = c.args.source.now.transform.now in
    let force = in_force_view fs ((goal.TargetIsa-dyn g c.args.isa.now).dwarf_registers c.args.isa.now.1) c.in_force_by-in_force.result in
    let seen = located-seen (value_of_expression c.args.name force (expression_at c.args.bytes.now (Info, 0))) c.in-Ok-Some.field-0 (Some c.in-Ok-Some.location_value) c.in-Ok-Some.ensures (c.in-Ok-Some.field-0-is ∙ ap Some (sym c.in-Ok-Some.location_value-is)) in
    fits-located size c.args.name c.in-Ok-Some.location_value c.output_location_value.result c.output_location_value.ensures.means
    (subst (FitsSeen {E = LocationRefusal} c.args.name) seen (fits-expression c.args.name fs (c.translations_are_said.ensures fs c.requires.functions) force refl (expression_at c.args.bytes.now (Info, 0))))

pub returns-in-Ok-Some-clause-made : goal.returns-in-Ok-Some-clause-made
returns-in-Ok-Some-clause-made g c = λ s e before unit texts entry numbered tops.
    let at = ap (λ (x : Entry). x.offset) entry in
    let plain = sym (c.is_wrapped.ensures e entry) ∙ c.if-is_wrapped.false in
    let source = c.args.source.now in
    let registers = (goal.TargetIsa-dyn g c.args.isa.now).dwarf_registers c.args.isa.now.1 in
    let is = c.in_force_by-in_force.ensures registers c.args.source.now s e tops.1 (ap frame_view c.as_ref.ensures.value ∙ c.frame_in_force-frame.ensures registers s e tops.0 tops.1) in
    let force = in_force_view source.transform.now registers c.in_force_by-in_force.result in
    let location_value = c.in-Ok-Some.location_value in
    let seen = located-seen (value_of_expression c.args.name force (expression_at c.args.bytes.now (Info, 0))) c.in-Ok-Some.field-0 (Some c.in-Ok-Some.location_value) c.in-Ok-Some.ensures (c.in-Ok-Some.field-0-is ∙ ap Some (sym c.in-Ok-Some.location_value-is)) in
    record {
      drafted = drafted (Some (location_value_view location_value));
      is = expression-made (source_with registers source s) e before c.args.entry.now.offset c.args.number at numbered force is c.args.name c.args.bytes.now (Info, 0) plain (Some (location_value_view location_value)) seen;
      made = located-says source.places.now unit c.args.name texts location_value c.output_location_value.result (c.output_location_value.ensures.means texts unit) (returns-in-Ok-Some-clause-fits g c) (c.output_location_value.ensures.texts texts);
    }

pub returns-in-Ok-None-clause-made : goal.returns-in-Ok-None-clause-made
returns-in-Ok-None-clause-made g c = λ s e before unit texts entry numbered tops.
    let at = ap (λ (x : Entry). x.offset) entry in
    let plain = sym (c.is_wrapped.ensures e entry) ∙ c.if-is_wrapped.false in
    let source = c.args.source.now in
    let registers = (goal.TargetIsa-dyn g c.args.isa.now).dwarf_registers c.args.isa.now.1 in
    let is = c.in_force_by-in_force.ensures registers c.args.source.now s e tops.1 (ap frame_view c.as_ref.ensures.value ∙ c.frame_in_force-frame.ensures registers s e tops.0 tops.1) in
    let force = in_force_view source.transform.now registers c.in_force_by-in_force.result in
    let seen = located-seen (value_of_expression c.args.name force (expression_at c.args.bytes.now (Info, 0))) c.in-Ok-None.field-0 None c.in-Ok-None.ensures c.in-Ok-None.field-0-is in
    record {
      drafted = drafted None;
      is = expression-made (source_with registers source s) e before c.args.entry.now.offset c.args.number at numbered force is c.args.name c.args.bytes.now (Info, 0) plain None seen;
      made = nothing-says source.places.now unit c.args.name texts;
    }

pub returns-in-Err-clause-made : goal.returns-in-Err-clause-made
returns-in-Err-clause-made g c = λ s e before unit texts entry numbered tops.
    let at = ap (λ (x : Entry). x.offset) entry in
    let plain = sym (c.is_wrapped.ensures e entry) ∙ c.if-is_wrapped.false in
    let source = c.args.source.now in
    let registers = (goal.TargetIsa-dyn g c.args.isa.now).dwarf_registers c.args.isa.now.1 in
    let is = c.in_force_by-in_force.ensures registers c.args.source.now s e tops.1 (ap frame_view c.as_ref.ensures.value ∙ c.frame_in_force-frame.ensures registers s e tops.0 tops.1) in
    let force = in_force_view source.transform.now registers c.in_force_by-in_force.result in
    expression-told (source_with registers source s) e before c.args.entry.now.offset c.args.number at numbered force is c.args.name c.args.bytes.now (Info, 0) plain c.in-Err.error (refusal_told c.at_expression.result) c.at_expression.ensures c.in-Err.ensures

pub returns-in_err-check_attribute_expression-clause-made : goal.returns-in_err-check_attribute_expression-clause-made
returns-in_err-check_attribute_expression-clause-made g c = λ s e before unit texts entry numbered tops.
    let source = c.args.source.now in
    let registers = (goal.TargetIsa-dyn g c.args.isa.now).dwarf_registers c.args.isa.now.1 in
    let is = c.in_force_by-in_force.ensures registers c.args.source.now s e tops.1 (ap frame_view c.as_ref.ensures.value ∙ c.frame_in_force-frame.ensures registers s e tops.0 tops.1) in
    let force = in_force_view source.transform.now registers c.in_force_by-in_force.result in
    let at = ap (λ (x : Entry). x.offset) entry in
    let wrapped = sym (c.is_wrapped.ensures e entry) ∙ c.if-is_wrapped.true in
    let p = err_from_is_err_and c.from_residual.result c.from_residual.ensures.1 in
    rw (p.1, p.2) (wrapped-told (source_with registers source s) e before c.args.entry.now.offset c.args.number at numbered force is c.args.name c.args.bytes.now (Info, 0) wrapped (refusal_told c.in_err-check_attribute_expression.field-0.0) (c.in_err-check_attribute_expression.ensures registers s e before at numbered is))

pub returns-then-is_wrapped-clause-made : goal.returns-then-is_wrapped-clause-made
returns-then-is_wrapped-clause-made g c = λ s e before unit texts entry numbered tops.
    let source = c.args.source.now in
    let registers = (goal.TargetIsa-dyn g c.args.isa.now).dwarf_registers c.args.isa.now.1 in
    let is = c.in_force_by-in_force.ensures registers c.args.source.now s e tops.1 (ap frame_view c.as_ref.ensures.value ∙ c.frame_in_force-frame.ensures registers s e tops.0 tops.1) in
    let force = in_force_view source.transform.now registers c.in_force_by-in_force.result in
    let at = ap (λ (x : Entry). x.offset) entry in
    let wrapped = sym (c.is_wrapped.ensures e entry) ∙ c.if-is_wrapped.true in
    record {
      drafted = drafted None;
      is = wrapped-read (source_with registers source s) e before c.args.entry.now.offset c.args.number at numbered force is c.args.name c.args.bytes.now (Info, 0) wrapped (c.in_ok-check_attribute_expression.ensures registers s e before at numbered is);
      made = nothing-says source.places.now unit c.args.name texts;
    }
