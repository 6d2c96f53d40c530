use Rattle.std.proofs.Common.{◌≡◌, true, ap, sym, ◌∙◌, subst}
use Rattle.std.specs.Prelude.{◌&&◌, ◌||◌}
use Rattle.std.proofs.lemmas.Bool.{ne_eqb}
use Rattle.dwc_rules.specs.ObjectPointers.{looks_like_this}
use Rattle.dwc_read.specs.EntriesSeen.{entry_view}
use Rattle.dwc_source.specs.Sources.{placed_entry}
use Rattle.dwc_clone.specs.ParameterContexts.{GivesOnly, is_first}
use Rattle.dwc_clone.proofs.object_pointer.is_object_pointer.Goals as goal

pub returns : goal.returns
returns c = λ number s source emitted.
    let looks = looks_like_this s.texts s.entries (placed_entry c.args.source.now (entry_view c.args.entry.now)) in
    let other = ne_eqb c.args.context.obj_ptr c.args.entry.now.offset c.if-context-entry.false in
    let first : is_first c.args.context ≡ true = sym c.is_first.ensures ∙ c.if-not-is_first.false in
    subst (λ b. GivesOnly b c.looks_like_this.result) (sym (ap (λ b. b || (is_first c.args.context && looks)) other ∙ ap (λ b. b && looks) first)) (c.looks_like_this.ensures number s source emitted)
