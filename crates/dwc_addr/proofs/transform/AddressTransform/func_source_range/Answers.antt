use Rattle.std.proofs.Common.{◌≡◌, ◌<◌, sym, subst, map, length, slice_get, Some}
use Rattle.dwc_addr.proofs.ItemLaws.{item-view}
use Rattle.dwc_addr.proofs.transform.AddressTransform.func_source_range.Goals as goal

pub returns : goal.returns
returns c =
    let inside = subst (λ fs. c.args.index.0 < length fs) (sym c.self.view_is) c.requires in
    let function = c.index-function.result.now in
    subst (λ fs. slice_get (map (λ f. (f.start, f.end)) fs) c.args.index.0 ≡ Some (function.wasm_start, function.wasm_end)) c.self.view_is
    (item-view (λ f. (f.start, f.end)) c.self.inside.functions.items c.args.index.0 function inside c.index-function.ensures)
