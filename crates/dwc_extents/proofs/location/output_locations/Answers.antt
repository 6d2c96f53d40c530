use Rattle.std.proofs.Common.{◌∙◌, Ok, Some, None, refl, ap, sym, subst}
use Rattle.std.proofs.lemmas.Result.{err_from_is_err_and}
use Rattle.dwc_dwarf.specs.Entries.{Entry}
use Rattle.dwc_rules.specs.EntryRules.{code_value_becomes}
use Rattle.dwc_dwarf.specs.Lists.{list_source}
use Rattle.dwc_rules.specs.LocationAttributes.{drafted}
use Rattle.dwc_read.specs.ValuesSeen.{value_view}
use Rattle.dwc_expr.specs.Frames.{frame_view}
use Rattle.dwc_extents.specs.CodeSources.{source_with}
use Rattle.dwc_source.specs.Errors.{refusal_told}
use Rattle.dwc_extents.specs.InForceSeen.{in_force_view}
use Rattle.dwc_extents.specs.LocationListValues.{LocationListRefusal, value_of_list}
use Rattle.dwc_extents.specs.LocationValues.{location_value_view}
use Rattle.dwc_source.specs.MadeValues.{RefusesSo}
use Rattle.dwc_extents.proofs.LocationLaws.{list-made, list-unread, listed-told, located-says, located-seen, nothing-says, plain-becomes}
use Rattle.dwc_extents.proofs.LocationsFit.{FitsSeen, fits-list, fits-located}
use Rattle.dwc_extents.proofs.location.output_locations.Goals as goal

pub returns-in-Ok-Some-clause-fits : goal.returns-in-Ok-Some-clause-fits
returns-in-Ok-Some-clause-fits g c = λ size name named.
    let fs = c.args.source.now.transform.now in
    let u = c.args.source.now.unit.now in
    let force = in_force_view fs ((goal.TargetIsa-dyn g c.args.isa.now).dwarf_registers c.args.isa.now.1) c.in_force_by-in_force.result in
    let lists = list_source u.sections u.header in
    let seen = located-seen (value_of_list lists force c.args.entry.now.offset (value_view c.args.value)) c.in-Ok-Some.field-0 (Some c.in-Ok-Some.location_value) c.in-Ok-Some.ensures (c.in-Ok-Some.field-0-is ∙ ap Some (sym c.in-Ok-Some.location_value-is)) in
    fits-located size name c.in-Ok-Some.location_value c.output_location_value.result c.output_location_value.ensures.means
    (subst (FitsSeen {E = LocationListRefusal} name) seen (fits-list fs (c.translations_are_said.ensures fs c.requires.functions) force refl name named lists c.args.entry.now.offset (value_view c.args.value)))

pub returns-in-Ok-Some-clause-made : goal.returns-in-Ok-Some-clause-made
returns-in-Ok-Some-clause-made g c = λ s e before unit name texts entry named tops.
    let at = ap (λ (x : Entry). x.offset) entry in
    let plain = sym (c.is_wrapped.ensures e entry) ∙ c.if-is_wrapped.false in
    let source = c.args.source.now in
    let u = source.unit.now in
    let registers = (goal.TargetIsa-dyn g c.args.isa.now).dwarf_registers c.args.isa.now.1 in
    let is = c.in_force_by-in_force.ensures registers c.args.source.now s e tops.1 (ap frame_view c.as_ref.ensures.value ∙ c.frame_in_force-frame.ensures registers s e tops.0 tops.1) in
    let force = in_force_view source.transform.now registers c.in_force_by-in_force.result in
    let location_value = c.in-Ok-Some.location_value in
    let v = value_view c.args.value in
    let seen = located-seen (value_of_list (list_source u.sections u.header) force c.args.entry.now.offset v) c.in-Ok-Some.field-0 (Some location_value) c.in-Ok-Some.ensures (c.in-Ok-Some.field-0-is ∙ ap Some (sym c.in-Ok-Some.location_value-is)) in
    record {
      drafted = drafted (Some (location_value_view location_value));
      is = list-made (source_with registers source s) e before name v _ drafted (plain-becomes (source_with registers source s) e before c.args.entry.now.offset at force is name v c.requires.list plain) (Some (location_value_view location_value)) seen;
      made = located-says source.places.now unit name texts location_value c.output_location_value.result (c.output_location_value.ensures.means texts unit) (λ size. returns-in-Ok-Some-clause-fits g c size name named) (c.output_location_value.ensures.texts texts);
    }

pub returns-in-Ok-None-clause-made : goal.returns-in-Ok-None-clause-made
returns-in-Ok-None-clause-made g c = λ s e before unit name texts entry named tops.
    let at = ap (λ (x : Entry). x.offset) entry in
    let plain = sym (c.is_wrapped.ensures e entry) ∙ c.if-is_wrapped.false in
    let source = c.args.source.now in
    let u = source.unit.now in
    let registers = (goal.TargetIsa-dyn g c.args.isa.now).dwarf_registers c.args.isa.now.1 in
    let is = c.in_force_by-in_force.ensures registers c.args.source.now s e tops.1 (ap frame_view c.as_ref.ensures.value ∙ c.frame_in_force-frame.ensures registers s e tops.0 tops.1) in
    let force = in_force_view source.transform.now registers c.in_force_by-in_force.result in
    let v = value_view c.args.value in
    let seen = located-seen (value_of_list (list_source u.sections u.header) force c.args.entry.now.offset v) c.in-Ok-None.field-0 None c.in-Ok-None.ensures c.in-Ok-None.field-0-is in
    record {
      drafted = drafted None;
      is = list-made (source_with registers source s) e before name v _ drafted (plain-becomes (source_with registers source s) e before c.args.entry.now.offset at force is name v c.requires.list plain) None seen;
      made = nothing-says source.places.now unit name texts;
    }

pub returns-in-Err-List-clause-made : goal.returns-in-Err-List-clause-made
returns-in-Err-List-clause-made g c = λ s e before unit name texts entry named tops.
    let at = ap (λ (x : Entry). x.offset) entry in
    let plain = sym (c.is_wrapped.ensures e entry) ∙ c.if-is_wrapped.false in
    let source = c.args.source.now in
    let registers = (goal.TargetIsa-dyn g c.args.isa.now).dwarf_registers c.args.isa.now.1 in
    let is = c.in_force_by-in_force.ensures registers c.args.source.now s e tops.1 (ap frame_view c.as_ref.ensures.value ∙ c.frame_in_force-frame.ensures registers s e tops.0 tops.1) in
    let force = in_force_view source.transform.now registers c.in_force_by-in_force.result in
    let x = source_with registers source s in
    let v = value_view c.args.value in
    subst (λ told. RefusesSo (code_value_becomes x e before name v) (refusal_told told)) (sym c.from.ensures)
    (list-unread x e before name v _ drafted (plain-becomes x e before c.args.entry.now.offset at force is name v c.requires.list plain) c.in-Err-List.field-0 c.in-Err-List.fault c.in-Err-List.field-0-is c.in-Err-List.ensures)

pub returns-in-Err-Expression-clause-made : goal.returns-in-Err-Expression-clause-made
returns-in-Err-Expression-clause-made g c = λ s e before unit name texts entry named tops.
    let at = ap (λ (x : Entry). x.offset) entry in
    let plain = sym (c.is_wrapped.ensures e entry) ∙ c.if-is_wrapped.false in
    let source = c.args.source.now in
    let registers = (goal.TargetIsa-dyn g c.args.isa.now).dwarf_registers c.args.isa.now.1 in
    let is = c.in_force_by-in_force.ensures registers c.args.source.now s e tops.1 (ap frame_view c.as_ref.ensures.value ∙ c.frame_in_force-frame.ensures registers s e tops.0 tops.1) in
    let force = in_force_view source.transform.now registers c.in_force_by-in_force.result in
    listed-told (source_with registers source s) e before name (value_view c.args.value) _ drafted (plain-becomes (source_with registers source s) e before c.args.entry.now.offset at force is name (value_view c.args.value) c.requires.list plain) c.in-Err-Expression.field-0 c.in-Err-Expression.error c.in-Err-Expression.field-0-is c.in-Err-Expression.ensures (refusal_told c.of_expression.result) c.of_expression.ensures

pub returns-in_err-check_locations-clause-made : goal.returns-in_err-check_locations-clause-made
returns-in_err-check_locations-clause-made g c = λ s e before unit name texts entry named tops.
    let registers = (goal.TargetIsa-dyn g c.args.isa.now).dwarf_registers c.args.isa.now.1 in
    let is = c.in_force_by-in_force.ensures registers c.args.source.now s e tops.1 (ap frame_view c.as_ref.ensures.value ∙ c.frame_in_force-frame.ensures registers s e tops.0 tops.1) in
    let at = ap (λ (x : Entry). x.offset) entry in
    let wrapped = sym (c.is_wrapped.ensures e entry) ∙ c.if-is_wrapped.true in
    let p = err_from_is_err_and c.from_residual.result c.from_residual.ensures.1 in
    rw (p.1, p.2) (c.in_err-check_locations.ensures registers s e before name at wrapped is)

pub returns-then-is_wrapped-clause-made : goal.returns-then-is_wrapped-clause-made
returns-then-is_wrapped-clause-made g c = λ s e before unit name texts entry named tops.
    let registers = (goal.TargetIsa-dyn g c.args.isa.now).dwarf_registers c.args.isa.now.1 in
    let is = c.in_force_by-in_force.ensures registers c.args.source.now s e tops.1 (ap frame_view c.as_ref.ensures.value ∙ c.frame_in_force-frame.ensures registers s e tops.0 tops.1) in
    let at = ap (λ (x : Entry). x.offset) entry in
    let wrapped = sym (c.is_wrapped.ensures e entry) ∙ c.if-is_wrapped.true in
    let read = c.in_ok-check_locations.ensures registers s e before name at wrapped is in
    record { drafted = None; is = read.is ∙ ap (λ d. Ok d) read.made; made = nothing-says c.args.source.now.places.now unit name texts }
