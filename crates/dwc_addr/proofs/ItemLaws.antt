-- What is told of one of the functions that are kept.
use Rattle.std.proofs.Common.{◌≡◌, ℕ, ◌<◌, sym, ap, ◌∙◌, List, map, length, get_or, Some, slice_get}
use Rattle.std.specs.Prelude.{option_map}
use Rattle.std.proofs.lemmas.List.{length-map}
use Rattle.std.proofs.lemmas.Option.{slice_get-map, slice_get-get_or}
use Rattle.dwc_native.specs.Functions.{Function}
use Rattle.dwc_addr.specs.declared.function_map.FunctionMap.{FunctionMap}
use Rattle.dwc_addr.specs.Transforms.{function_view}

pub item-view : {B : Type 0} (v : Function → B) (ms : List FunctionMap) (k : ℕ) (m : FunctionMap) → k < length (map function_view ms) → m ≡ get_or ms k m → slice_get (map v (map function_view ms)) k ≡ Some (v (function_view m))
item-view v ms k m inside is =
    slice_get-map v (map function_view ms) k
    ∙ ap (option_map v) (slice_get-map function_view ms k ∙ ap (option_map function_view) (slice_get-get_or ms k m (rw (length-map ms function_view) at inside) ∙ ap Some (sym is)))
