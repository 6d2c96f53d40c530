use Rattle.std.proofs.Common.{ap, sym, ◌∙◌, option_map}
use Rattle.dwc_rules.specs.Scopes.{top_of}
use Rattle.dwc_extents.proofs.StackPlaces.{last-is}
use Rattle.dwc_extents.proofs.inherited_attr.InheritedAttr.top.Goals as goal

pub returns : goal.returns
returns g c = ap (option_map (λ g. g.1)) (c.in_ok-value.ensures.value ∙ sym (last-is c.deref.result.now)) ∙ ap top_of (c.deref.ensures.value ∙ c.self.view_is)
