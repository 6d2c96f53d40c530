use Rattle.std.proofs.Common.{ap, sym, ◌∙◌, Some, option_map}
use Rattle.dwc_rules.specs.Scopes.{top_of}
use Rattle.dwc_extents.specs.Lineages.{Stacks}
use Rattle.dwc_extents.proofs.StackViews.{top-seen}
use Rattle.dwc_extents.proofs.lineage.Lineage.scope.Goals as goal

pub returns-in-Some : goal.returns-in-Some
returns-in-Some c =
    ap Some c.as_slice.ensures
    ∙ ap (option_map (λ scope. scope.items)) c.in-Some.ensures
    ∙ sym (top-seen (λ scope. scope.items) c.self.inside.scopes)
    ∙ ap (λ (s : Stacks). top_of s.scopes) c.self.view_is

pub returns-in-None : goal.returns-in-None
returns-in-None c =
    ap (option_map (λ scope. scope.items)) c.in-None.ensures
    ∙ sym (top-seen (λ scope. scope.items) c.self.inside.scopes)
    ∙ ap (λ (s : Stacks). top_of s.scopes) c.self.view_is
