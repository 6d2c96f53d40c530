use Rattle.std.proofs.Common.{ap, is_some, sym, ◌∙◌, w64}
use Rattle.std.proofs.lemmas.Int.{to_z-of_z}
use Rattle.dwc_rules.specs.Scopes.{top_at}
use Rattle.dwc_extents.proofs.StackPlaces.{top_at-top}
use Rattle.dwc_extents.proofs.inherited_attr.InheritedAttr.top_with_depth.Goals as goal

pub returns-then-has_top_at : goal.returns-then-has_top_at
returns-then-has_top_at g c =
    c.top.ensures
    ∙ top_at-top c.args.depth c.args.self.now
    (sym c.if-has_top_at.true ∙ c.has_top_at.ensures ∙ ap (λ d. is_some (top_at d c.args.self.now)) (to_z-of_z w64 c.args.depth c.ranges.depth))
