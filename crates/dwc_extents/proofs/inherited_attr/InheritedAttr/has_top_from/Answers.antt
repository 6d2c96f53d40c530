use Rattle.std.proofs.Common.{ap, int_le, sym, ◌∙◌, w64}
use Rattle.std.proofs.lemmas.Int.{to_z-of_z}
use Rattle.dwc_rules.specs.Scopes.{left_for}
use Rattle.dwc_extents.proofs.StackPlaces.{last-is, left-whole, left-none}
use Rattle.dwc_extents.proofs.inherited_attr.InheritedAttr.has_top_from.Goals as goal

pub returns-in-Some : goal.returns-in-Some
returns-in-Some g c below =
    let same = c.deref.ensures.value ∙ c.self.view_is in
    let from = c.is_from.ensures ∙ ap (λ d. int_le d c.in-Some.item.now.0) (to_z-of_z w64 c.args.depth c.ranges.depth) in
    ap (left_for c.args.depth) (sym same)
    ∙ left-whole c.args.depth c.deref.result.now c.in-Some.item.now (last-is c.deref.result.now ∙ sym c.in-Some.ensures.value) (sym from ∙ below)
    ∙ same

pub returns-in-None : goal.returns-in-None
returns-in-None g c below =
    let same = c.deref.ensures.value ∙ c.self.view_is in
    ap (left_for c.args.depth) (sym same) ∙ left-none c.args.depth c.deref.result.now (last-is c.deref.result.now ∙ sym c.in-None.ensures.value) ∙ same
