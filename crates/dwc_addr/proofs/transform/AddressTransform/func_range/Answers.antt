use Rattle.std.proofs.Common.{◌≡◌, ◌<◌, sym, subst, map, length, slice_get, Some}
use Rattle.dwc_addr.proofs.ItemLaws.{item-view}
use Rattle.dwc_addr.proofs.transform.AddressTransform.func_range.Goals as goal

pub returns : goal.returns
returns c =
    let inside = subst (λ fs. c.args.index.0 < length fs) (sym c.self.view_is) c.requires in
    subst (λ fs. slice_get (map (λ f. (0, f.length)) fs) c.args.index.0 ≡ Some (0, c.index.result.now.len)) c.self.view_is
    (item-view (λ f. (0, f.length)) c.self.inside.functions.items c.args.index.0 c.index.result.now inside c.index.ensures)
