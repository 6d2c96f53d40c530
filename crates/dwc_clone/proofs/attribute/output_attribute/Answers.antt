use Rattle.std.proofs.Common.{ℕ, IfSome, ap, sym, subst, ◌∙◌, true, false, Ok}
use Rattle.std.proofs.lemmas.Bool.{eq-eqb, ne_eqb}
use Rattle.std.proofs.lemmas.Result.{err_from_is_err_and}
use Rattle.dwc_base.specs.declared.constants.TheConstants.{DW_AT_stmt_list}
use Rattle.dwc_dwarf.specs.Lists.{list_source}
use Rattle.dwc_rules.specs.RangeRefusals.{begins_by_low_pc}
use Rattle.dwc_rules.specs.Clones.{table_becomes}
use Rattle.dwc_rules.specs.EntryRules.{is_gone}
use Rattle.dwc_read.specs.EntriesSeen.{entry_view}
use Rattle.dwc_read.specs.ValuesSeen.{attribute_view}
use Rattle.dwc_unit.specs.GivenUnits.{FitsValue}
use Rattle.dwc_extents.specs.CodeSources.{clone_rules}
use Rattle.dwc_source.specs.Errors.{refusal_told}
use Rattle.dwc_source.specs.MadeValues.{GivesMade, RefusesSo, Says, SaysMore}
use Rattle.dwc_extents.proofs.BoundLaws.{before-many}
use Rattle.dwc_clone.proofs.ValueLaws.{attribute-bound, attribute-dropped, attribute-table, attribute-value, made-none, made-same}
use Rattle.dwc_clone.proofs.attribute.output_attribute.Goals as goal

pub returns-then-is_dropped_name-clause-made : goal.returns-then-is_dropped_name-clause-made
returns-then-is_dropped_name-clause-made g c = λ unit s e before source at entry seen force.
    let registers = (goal.TargetIsa-dyn g c.args.isa.now).dwarf_registers c.args.isa.now.1 in
    let rules = clone_rules registers c.args.source.now s in
    let a = attribute_view c.args.attribute.now in
    made-none c.args.source.now.places.now unit a.0 c.args.strings.now _ (attribute-dropped rules s e before a (sym c.is_dropped_name.ensures ∙ c.if-is_dropped_name.true))

pub returns-then-name-eq-DW_AT_stmt_list-clause-made : goal.returns-then-name-eq-DW_AT_stmt_list-clause-made
returns-then-name-eq-DW_AT_stmt_list-clause-made g c = λ unit s e before source at entry seen force.
    let registers = (goal.TargetIsa-dyn g c.args.isa.now).dwarf_registers c.args.isa.now.1 in
    let rules = clone_rules registers c.args.source.now s in
    let a = attribute_view c.args.attribute.now in
    let kept = sym c.is_dropped_name.ensures ∙ c.if-is_dropped_name.false in
    let is = attribute-table rules s e before a kept (eq-eqb a.0 DW_AT_stmt_list c.if-name-eq-DW_AT_stmt_list.true) in
    let says = c.line_table.ensures.made s e c.args.source.now.places.now unit c.args.strings.now source.files entry in
    made-same c.args.source.now.places.now unit a.0 c.args.strings.now _ (table_becomes s e) c.line_table.result is (subst (λ (n : ℕ). Says c.args.source.now.places.now unit n c.args.strings.now (table_becomes s e) c.line_table.result) (sym c.if-name-eq-DW_AT_stmt_list.true) says)

pub returns-then-name-eq-DW_AT_stmt_list-clause-fits : goal.returns-then-name-eq-DW_AT_stmt_list-clause-fits
returns-then-name-eq-DW_AT_stmt_list-clause-fits g c = λ size. subst (λ (n : ℕ). IfSome c.line_table.result (FitsValue size n)) (sym c.if-name-eq-DW_AT_stmt_list.true) (c.line_table.ensures.fits size)

pub returns-in_err-check_bound-clause-made : goal.returns-in_err-check_bound-clause-made
returns-in_err-check_bound-clause-made g c = λ unit s e before source at entry seen force.
    let registers = (goal.TargetIsa-dyn g c.args.isa.now).dwarf_registers c.args.isa.now.1 in
    let rules = clone_rules registers c.args.source.now s in
    let a = attribute_view c.args.attribute.now in
    let kept = sym c.is_dropped_name.ensures ∙ c.if-is_dropped_name.false in
    let other = ne_eqb c.args.attribute.now.0 DW_AT_stmt_list c.if-name-eq-DW_AT_stmt_list.false in
    let bound = sym c.is_bound_name.ensures ∙ c.if-is_bound_name.true in
    let is = attribute-bound rules s e before a kept other bound in
    let u = c.args.source.now.unit.now in
    let begins = c.requires.begins ∙ ap (begins_by_low_pc (list_source u.sections u.header) c.args.source.now.transform.now) (sym entry) in
    let p = err_from_is_err_and c.from_residual.result c.from_residual.ensures.1 in
    rw (p.1, p.2) (subst (λ read. RefusesSo read (refusal_told c.in_err-check_bound.field-0.0)) (sym is) (c.in_err-check_bound.ensures.made c.args.strings.now c.requires.known registers s e before source.texts entry begins seen force))

pub returns-then-is_bound_name-clause-made : goal.returns-then-is_bound_name-clause-made
returns-then-is_bound_name-clause-made g c = λ unit s e before source at entry seen force.
    let registers = (goal.TargetIsa-dyn g c.args.isa.now).dwarf_registers c.args.isa.now.1 in
    let rules = clone_rules registers c.args.source.now s in
    let a = attribute_view c.args.attribute.now in
    let kept = sym c.is_dropped_name.ensures ∙ c.if-is_dropped_name.false in
    let other = ne_eqb c.args.attribute.now.0 DW_AT_stmt_list c.if-name-eq-DW_AT_stmt_list.false in
    let bound = sym c.is_bound_name.ensures ∙ c.if-is_bound_name.true in
    let is = attribute-bound rules s e before a kept other bound in
    let u = c.args.source.now.unit.now in
    let begins = c.requires.begins ∙ ap (begins_by_low_pc (list_source u.sections u.header) c.args.source.now.transform.now) (sym entry) in
    let read = c.in_ok-check_bound.ensures.made c.args.strings.now c.requires.known registers s e before source.texts entry begins seen force in
    made-none c.args.source.now.places.now unit a.0 c.args.strings.now _ (is ∙ (read.is ∙ ap Ok read.made))

pub returns-then-is_gone-clause-made : goal.returns-then-is_gone-clause-made
returns-then-is_gone-clause-made g c = λ unit s e before source at entry seen force.
    let registers = (goal.TargetIsa-dyn g c.args.isa.now).dwarf_registers c.args.isa.now.1 in
    let rules = clone_rules registers c.args.source.now s in
    let a = attribute_view c.args.attribute.now in
    let kept = sym c.is_dropped_name.ensures ∙ c.if-is_dropped_name.false in
    let other = ne_eqb c.args.attribute.now.0 DW_AT_stmt_list c.if-name-eq-DW_AT_stmt_list.false in
    let bound = sym c.is_bound_name.ensures ∙ c.if-is_bound_name.false in
    let goes = ap (λ x. is_gone c.args.source.now.module.output_for x a.0) entry ∙ (sym c.is_gone.ensures ∙ c.if-is_gone.true) in
    let is = attribute-value rules s e before a true goes kept other bound in
    let count = before-many (entry_view c.args.entry.now).attributes before c.args.number seen c.requires.within in
    subst (λ read. GivesMade (SaysMore c.args.source.now.places.now unit a.0 c.args.strings.now c.gone_value.new.strings) read c.gone_value.result) (sym is) (c.gone_value.ensures.made unit s e before source at entry count force)

pub returns-clause-made : goal.returns-clause-made
returns-clause-made g c = λ unit s e before source at entry seen force.
    let registers = (goal.TargetIsa-dyn g c.args.isa.now).dwarf_registers c.args.isa.now.1 in
    let rules = clone_rules registers c.args.source.now s in
    let a = attribute_view c.args.attribute.now in
    let kept = sym c.is_dropped_name.ensures ∙ c.if-is_dropped_name.false in
    let other = ne_eqb c.args.attribute.now.0 DW_AT_stmt_list c.if-name-eq-DW_AT_stmt_list.false in
    let bound = sym c.is_bound_name.ensures ∙ c.if-is_bound_name.false in
    let stays = ap (λ x. is_gone c.args.source.now.module.output_for x a.0) entry ∙ (sym c.is_gone.ensures ∙ c.if-is_gone.false) in
    let is = attribute-value rules s e before a false stays kept other bound in
    let count = before-many (entry_view c.args.entry.now).attributes before c.args.number seen c.requires.within in
    subst (λ read. GivesMade (SaysMore c.args.source.now.places.now unit a.0 c.args.strings.now c.output_value.new.strings) read c.output_value.result) (sym is) (c.output_value.ensures.made unit s e before source at entry count force)
