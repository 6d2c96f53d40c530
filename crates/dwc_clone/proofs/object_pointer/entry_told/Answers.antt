use Rattle.std.proofs.Common.{◌≡◌, true, false, pos, to_z, of_z, w64, rules, [], ◌∷◌, ◌++◌, ap, sym, subst, refl, ◌∙◌}
use Rattle.std.specs.Prelude.{◌-ℤ◌}
use Rattle.std.proofs.lemmas.Bool.{eq-eqb, ne_eqb}
use Rattle.dwc_base.specs.declared.constants.TheConstants.{DW_TAG_formal_parameter}
use Rattle.dwc_rules.specs.Scopes.{left_for, top_at}
use Rattle.dwc_read.specs.EntriesSeen.{entry_view, natural}
use Rattle.dwc_source.specs.Sources.{placed_entry}
use Rattle.dwc_clone.specs.ParameterContexts.{GivesTelling, told_behind}
use Rattle.dwc_clone.proofs.ParameterLaws.{parameters-told, plain-told, this-emitted}
use Rattle.dwc_clone.proofs.ParameterWalks.{is_parameter, with-other}
use Rattle.dwc_clone.proofs.object_pointer.entry_told.Goals as goal

pub returns-then-entry-eq-DW_TAG_formal_parameter-clause-told : goal.returns-then-entry-eq-DW_TAG_formal_parameter-clause-told
returns-then-entry-eq-DW_TAG_formal_parameter-clause-told c = λ number s es others source emitted walked behind.
    let e = entry_view c.args.entry.now in
    let src = c.args.source.now in
    let depth : to_z w64 (of_z w64 c.args.entry.now.depth) ≡ pos (natural c.args.entry.now.depth) = search rules in
    let left = c.update.ensures.left ∙ (ap (λ d. left_for d c.args.contexts.now) depth ∙ ap (left_for (pos e.depth)) behind) in
    let parameter : is_parameter e ≡ true = eq-eqb e.tag DW_TAG_formal_parameter c.if-entry-eq-DW_TAG_formal_parameter.true in
    subst (λ t. GivesTelling t c.parameter_told.result)
    (ap (λ gs. told_behind s.texts s.entries (placed_entry src e) (top_at (pos e.depth -ℤ pos 1) gs)) left ∙ parameters-told src number s source es others e emitted walked parameter)
    (c.parameter_told.ensures.told number s source (this-emitted src number s source es others e emitted walked))

pub returns-then-not-has_parameters-clause-contexts : goal.returns-then-not-has_parameters-clause-contexts
returns-then-not-has_parameters-clause-contexts c =
    let e = entry_view c.args.entry.now in
    let depth : to_z w64 (of_z w64 c.args.entry.now.depth) ≡ pos (natural c.args.entry.now.depth) = search rules in
    c.update.ensures.left
    ∙ (ap (λ d. left_for d c.args.contexts.now) depth
    ∙ sym (with-other c.args.source.now e c.args.contexts.now false (ne_eqb e.tag DW_TAG_formal_parameter c.if-entry-eq-DW_TAG_formal_parameter.false) (sym (c.has_parameters.ensures (placed_entry c.args.source.now e) refl) ∙ c.if-not-has_parameters.true)))

pub returns-then-not-has_parameters-clause-told : goal.returns-then-not-has_parameters-clause-told
returns-then-not-has_parameters-clause-told c = λ number s es others source emitted walked behind.
    let e = entry_view c.args.entry.now in
    sym (plain-told s.texts s.entries (placed_entry c.args.source.now e) false (ne_eqb e.tag DW_TAG_formal_parameter c.if-entry-eq-DW_TAG_formal_parameter.false) (sym (c.has_parameters.ensures (placed_entry c.args.source.now e) refl) ∙ c.if-not-has_parameters.true))

pub returns-clause-contexts : goal.returns-clause-contexts
returns-clause-contexts c =
    let e = entry_view c.args.entry.now in
    let depth : to_z w64 (of_z w64 c.args.entry.now.depth) ≡ pos (natural c.args.entry.now.depth) = search rules in
    let left : c.update.new.self ≡ left_for (pos e.depth) c.args.contexts.now = c.update.ensures.left ∙ ap (λ d. left_for d c.args.contexts.now) depth in
    c.in_ok-push.ensures.pushed
    ∙ (ap (λ d. c.update.new.self ++ (d, c.context_of.result) ∷ []) depth
    ∙ (ap (λ gs. gs ++ (pos e.depth, c.context_of.result) ∷ []) left
    ∙ (ap (λ x. left_for (pos e.depth) c.args.contexts.now ++ (pos e.depth, x) ∷ []) c.context_of.ensures
    ∙ sym (with-other c.args.source.now e c.args.contexts.now true (ne_eqb e.tag DW_TAG_formal_parameter c.if-entry-eq-DW_TAG_formal_parameter.false) (sym (c.has_parameters.ensures (placed_entry c.args.source.now e) refl) ∙ c.if-not-has_parameters.false)))))

pub returns-clause-told : goal.returns-clause-told
returns-clause-told c = λ number s es others source emitted walked behind.
    let e = entry_view c.args.entry.now in
    sym (plain-told s.texts s.entries (placed_entry c.args.source.now e) true (ne_eqb e.tag DW_TAG_formal_parameter c.if-entry-eq-DW_TAG_formal_parameter.false) (sym (c.has_parameters.ensures (placed_entry c.args.source.now e) refl) ∙ c.if-not-has_parameters.false))
