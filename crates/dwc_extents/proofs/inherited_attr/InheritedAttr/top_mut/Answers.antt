use Rattle.std.proofs.Common.{◌≡◌, suc, ◌-◌, length, Some, refl, ap, sym, arith, ◌∙◌, slice_set, option_map}
use Rattle.dwc_rules.specs.Scopes.{top_of}
use Rattle.dwc_extents.specs.StacksByDepth.{with_top}
use Rattle.dwc_extents.proofs.StackPlaces.{last-at, with_top-at}
use Rattle.dwc_extents.proofs.inherited_attr.InheritedAttr.top_mut.Goals as goal

pub returns : goal.returns
returns g c =
    let items = c.self.inside.items.items in
    let last = c.len-last.result - 1 in
    let top = c.index_mut-top.result.now in
    let place : length items ≡ suc last = omega (arith, c.len-last.ensures, c.requires, ap length c.self.view_is) in (
      (refl, λ w. ap (λ g. slice_set items last (g.0, w)) c.index_mut-top.ensures.value ∙ with_top-at items last top w place ∙ ap (λ gs. with_top gs w) c.self.view_is),
      record {
        writes_back = tt;
        value = sym (ap top_of c.self.view_is) ∙ ap (option_map (λ g. g.1)) (last-at items last top place) ∙ ap (λ g. Some g.1) (sym c.index_mut-top.ensures.value);
      },
    )
