use Rattle.std.proofs.Common.{◌<◌, ap, sym, subst, ◌∙◌, length, Some, option_map, refl}
use Rattle.std.proofs.lemmas.List.Elements.{All-nil}
use Rattle.std.proofs.lemmas.Result.{err_from_is_err_and}
use Rattle.dwc_dwarf.specs.Trees as Trees
use Rattle.dwc_dwarf.specs.Values as Values
use Rattle.dwc_rules.specs.Drafts.{done}
use Rattle.dwc_rules.specs.Clones.{constant_becomes, reference_becomes, value_becomes}
use Rattle.dwc_read.specs.ValuesSeen.{value_view}
use Rattle.dwc_extents.specs.CodeSources.{clone_rules}
use Rattle.dwc_source.specs.MadeValues.{Says, own_reference, target_place}
use Rattle.dwc_clone.proofs.ValueLaws.{made-same}
use Rattle.dwc_clone.proofs.ReferenceLaws.{own-says}
use Rattle.dwc_clone.proofs.value.output_value.Goals as goal

pub returns-in-Constant-clause-made : goal.returns-in-Constant-clause-made
unfolding value_becomes
returns-in-Constant-clause-made g c = λ number s e before source unit entry count force.
    let rules = clone_rules ((goal.TargetIsa-dyn g c.args.isa.now).dwarf_registers c.args.isa.now.1) c.args.source.now s in
    let is = ap (λ v. value_becomes rules s e before c.args.name (value_view v)) c.in-Constant.is in
    made-same c.args.source.now.places.now number c.args.name c.args.strings.now _ (option_map done (constant_becomes s c.args.name c.in-Constant.form c.in-Constant.bits)) c.constant.result is (c.constant.ensures.made s c.args.source.now.places.now number c.args.strings.now source.files)

pub returns-in-Flag-clause-made : goal.returns-in-Flag-clause-made
unfolding value_becomes
returns-in-Flag-clause-made g c = λ number s e before source unit entry count force.
    let rules = clone_rules ((goal.TargetIsa-dyn g c.args.isa.now).dwarf_registers c.args.isa.now.1) c.args.source.now s in
    let is = ap (λ v. value_becomes rules s e before c.args.name (value_view v)) c.in-Flag.is in
    made-same c.args.source.now.places.now number c.args.name c.args.strings.now _ (Some (done (Trees.flag c.in-Flag.flag))) _ is (record { means = λ goals at. refl; fits = λ size. tt; texts = All-nil (λ n. n < length c.args.strings.now) })

pub returns-in-UnitRef-clause-made : goal.returns-in-UnitRef-clause-made
unfolding value_becomes
returns-in-UnitRef-clause-made g c = λ number s e before source unit entry count force.
    let rules = clone_rules ((goal.TargetIsa-dyn g c.args.isa.now).dwarf_registers c.args.isa.now.1) c.args.source.now s in
    let v = Values.unit_reference c.in-UnitRef.field-0 in
    let is = ap (λ v. value_becomes rules s e before c.args.name (value_view v)) c.in-UnitRef.is in
    let says = own-says c.args.source.now number c.args.name c.args.strings.now s e c.in-UnitRef.field-0 source unit in
    let made = c.unit_reference.ensures ∙ ap (λ v. option_map own_reference (target_place c.args.source.now (value_view v))) c.in-UnitRef.is in
    made-same c.args.source.now.places.now number c.args.name c.args.strings.now _ (reference_becomes s e v) _ is (subst (Says c.args.source.now.places.now number c.args.name c.args.strings.now (reference_becomes s e v)) (sym made) says)

pub returns-in_err-made-in_default-clause-made : goal.returns-in_err-made-in_default-clause-made
returns-in_err-made-in_default-clause-made g c = λ number s e before source unit entry count force.
    let p = err_from_is_err_and c.from_residual.result c.from_residual.ensures.1 in
    rw (p.1, p.2) (c.in_err-made-in_default.ensures.made number s e before source unit entry count force)
