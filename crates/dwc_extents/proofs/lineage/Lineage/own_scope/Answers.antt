use Rattle.std.proofs.Common.{ap, pos, sym, ◌∙◌, Some, None, option_map}
use Rattle.std.specs.Prelude.{if◌then◌else◌}
use Rattle.std.proofs.lemmas.Bool.{ne_eqb}
use Rattle.dwc_rules.specs.Scopes.{top_at}
use Rattle.dwc_base.specs.declared.constants.TheConstants.{DW_TAG_subprogram}
use Rattle.dwc_read.specs.EntriesSeen.{entry_view}
use Rattle.dwc_extents.specs.Lineages.{Stacks}
use Rattle.dwc_extents.proofs.StackViews.{top-at-seen}
use Rattle.dwc_extents.proofs.lineage.Lineage.own_scope.Goals as goal

pub returns-in-Some : goal.returns-in-Some
returns-in-Some c =
    let depth = pos (entry_view c.args.entry.now).depth in
    ap Some c.as_slice.ensures
    ∙ ap (option_map (λ scope. scope.items)) c.in-Some.ensures
    ∙ sym (top-at-seen (λ scope. scope.items) depth c.self.inside.scopes)
    ∙ ap (λ (s : Stacks). top_at depth s.scopes) c.self.view_is
    ∙ ap (λ b. if b then None else top_at depth c.args.self.now.scopes) (sym (ne_eqb c.args.entry.now.tag DW_TAG_subprogram c.if-entry-eq-DW_TAG_subprogram.false))

pub returns-in-None : goal.returns-in-None
returns-in-None c =
    let depth = pos (entry_view c.args.entry.now).depth in
    ap (option_map (λ scope. scope.items)) c.in-None.ensures
    ∙ sym (top-at-seen (λ scope. scope.items) depth c.self.inside.scopes)
    ∙ ap (λ (s : Stacks). top_at depth s.scopes) c.self.view_is
    ∙ ap (λ b. if b then None else top_at depth c.args.self.now.scopes) (sym (ne_eqb c.args.entry.now.tag DW_TAG_subprogram c.if-entry-eq-DW_TAG_subprogram.false))
