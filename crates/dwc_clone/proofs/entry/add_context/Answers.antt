use Rattle.std.proofs.Common.{refl, map, ap, sym, subst, ◌∙◌}
use Rattle.std.specs.Prelude.{option_map}
use Rattle.dwc_native.specs.BuiltExpressions.{label_over}
use Rattle.dwc_rules.specs.ContextVariable.{location_refusals}
use Rattle.dwc_rules.specs.EntryRules.{of_build}
use Rattle.dwc_native.specs.Parts.{context_label}
use Rattle.dwc_expr.specs.Frames.{frame_view}
use Rattle.dwc_read.specs.EntriesSeen.{entry_view}
use Rattle.dwc_source.specs.Sources.{placed_entry}
use Rattle.dwc_clone.specs.ClonedUnits.{TellsFirst}
use Rattle.dwc_extents.specs.CodeSources.{source_with}
use Rattle.dwc_clone.specs.ContextPlaces.{HasVariable}
use Rattle.dwc_source.specs.Errors.{refusal_told}
use Rattle.dwc_extents.specs.InForceSeen.{in_force_view}
use Rattle.dwc_clone.proofs.NumbersKept.{keeps-not, keeps-variable}
use Rattle.dwc_clone.proofs.ContextLaws.{context-other, context-over, context-refused}
use Rattle.dwc_clone.proofs.entry.add_context.Goals as goal

pub returns-then-entry-ne-DW_TAG_subprogram-clause-variable : goal.returns-then-entry-ne-DW_TAG_subprogram-clause-variable
returns-then-entry-ne-DW_TAG_subprogram-clause-variable g c = λ s tops.
    let src = c.args.source.now in
    let x = source_with ((goal.TargetIsa-dyn g c.args.isa.now).dwarf_registers c.args.isa.now.1) src s in
    let p = placed_entry src (entry_view c.args.entry.now) in
    subst (λ o. HasVariable o c.args.id.index src.vmctx_ptr c.args.strings.now c.args.unit.now c.args.unit.now) (sym (context-other x p c.if-entry-ne-DW_TAG_subprogram.true)) refl

pub returns-in_default-clause-variable : goal.returns-in_default-clause-variable
returns-in_default-clause-variable g c = λ s tops.
    let src = c.args.source.now in
    let registers = (goal.TargetIsa-dyn g c.args.isa.now).dwarf_registers c.args.isa.now.1 in
    let x = source_with registers src s in
    let p = placed_entry src (entry_view c.args.entry.now) in
    let force = c.in_force_by-in_force.ensures registers src s p tops.1 (ap frame_view c.as_ref.ensures.value ∙ c.frame_in_force-frame.ensures registers s p tops.0 tops.1) in
    let f = in_force_view src.transform.now registers c.in_force_by-in_force.result in
    let none = context-over x p f c.if-entry-ne-DW_TAG_subprogram.false force ∙ ap (λ o. option_map (λ scope. label_over f.surroundings scope context_label) (option_map (λ s. s.now) o)) c.in_default.is in
    subst (λ o. HasVariable o c.args.id.index src.vmctx_ptr c.args.strings.now c.args.unit.now c.args.unit.now) (sym none) refl

pub returns-in-Ok-clause-variable : goal.returns-in-Ok-clause-variable
returns-in-Ok-clause-variable g c = λ s tops.
    let src = c.args.source.now in
    let registers = (goal.TargetIsa-dyn g c.args.isa.now).dwarf_registers c.args.isa.now.1 in
    let x = source_with registers src s in
    let p = placed_entry src (entry_view c.args.entry.now) in
    let force = c.in_force_by-in_force.ensures registers src s p tops.1 (ap frame_view c.as_ref.ensures.value ∙ c.frame_in_force-frame.ensures registers s p tops.0 tops.1) in
    let f = in_force_view src.transform.now registers c.in_force_by-in_force.result in
    let over = context-over x p f c.if-entry-ne-DW_TAG_subprogram.false force ∙ ap (λ o. option_map (λ scope. label_over f.surroundings scope context_label) (option_map (λ s. s.now) o)) c.in-Some.is in
    subst (λ o. HasVariable o c.args.id.index src.vmctx_ptr c.append_vmctx_info.new.out_strings c.args.unit.now c.append_vmctx_info.new.unit) (sym over) c.in-Ok.ensures.variable

pub returns-in-Err-clause-variable : goal.returns-in-Err-clause-variable
returns-in-Err-clause-variable g c = λ s tops.
    let src = c.args.source.now in
    let registers = (goal.TargetIsa-dyn g c.args.isa.now).dwarf_registers c.args.isa.now.1 in
    let x = source_with registers src s in
    let p = placed_entry src (entry_view c.args.entry.now) in
    let force = c.in_force_by-in_force.ensures registers src s p tops.1 (ap frame_view c.as_ref.ensures.value ∙ c.frame_in_force-frame.ensures registers s p tops.0 tops.1) in
    let f = in_force_view src.transform.now registers c.in_force_by-in_force.result in
    let over = context-over x p f c.if-entry-ne-DW_TAG_subprogram.false force ∙ ap (λ o. option_map (λ scope. label_over f.surroundings scope context_label) (option_map (λ s. s.now) o)) c.in-Some.is in
    subst (λ o. TellsFirst (map (of_build src.module.place) (location_refusals o)) (refusal_told c.of_expression.result)) (sym over)
    (context-refused src.module.place (label_over f.surroundings c.in-Some.scope.now context_label) c.in-Err.error (refusal_told c.of_expression.result) c.in-Err.ensures.variable c.of_expression.ensures)

pub returns-then-entry-ne-DW_TAG_subprogram-clause-numbers : goal.returns-then-entry-ne-DW_TAG_subprogram-clause-numbers
returns-then-entry-ne-DW_TAG_subprogram-clause-numbers g c = λ but. keeps-not but c.args.unit.now

pub returns-in_default-clause-numbers : goal.returns-in_default-clause-numbers
returns-in_default-clause-numbers g c = λ but. keeps-not but c.args.unit.now

pub returns-in-Ok-clause-numbers : goal.returns-in-Ok-clause-numbers
returns-in-Ok-clause-numbers g c = λ but. keeps-variable but _ c.args.id.index c.args.source.now.vmctx_ptr c.append_vmctx_info.new.out_strings c.args.unit.now c.append_vmctx_info.new.unit c.in-Ok.ensures.variable
