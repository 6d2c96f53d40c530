use Rattle.std.proofs.Common.{ap, sym, ◌∙◌, ◌&&◌, is_some, int_le, w64}
use Rattle.std.proofs.lemmas.Int.{to_z-of_z}
use Rattle.dwc_rules.specs.Scopes.{top_at}
use Rattle.dwc_extents.proofs.StackPlaces.{last-is, top_at-is}
use Rattle.dwc_extents.proofs.inherited_attr.InheritedAttr.has_top_at.Goals as goal

pub returns-in-Some : goal.returns-in-Some
returns-in-Some g c =
    c.is_at.ensures
    ∙ ap (λ d. int_le d c.in-Some.item.now.0 && int_le c.in-Some.item.now.0 d) (to_z-of_z w64 c.args.depth c.ranges.depth)
    ∙ top_at-is c.args.depth c.deref.result.now c.in-Some.item.now (last-is c.deref.result.now ∙ sym c.in-Some.ensures.value)
    ∙ ap (λ gs. is_some (top_at c.args.depth gs)) (c.deref.ensures.value ∙ c.self.view_is)
