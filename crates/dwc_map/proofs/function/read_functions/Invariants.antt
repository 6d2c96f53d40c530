use Rattle.std.proofs.Common.{◌≡◌, ◌++◌, map, drop, option_map}
use Rattle.serde_json.specs.View.{items_view}
use Rattle.dwc_map.specs.MapFile.{map_function_of}
use Rattle.dwc_map.specs.MapValues.{all_items}
use Rattle.dwc_map.specs.MapViews.{function_view, AreConsistent}
use Rattle.dwc_map.proofs.function.read_functions.Given as goal

-- the functions so far, and those of the values to come, are those of all values
abbrev pub invariant-loop-value : goal.invariant-loop-value
invariant-loop-value l = record {
  value : option_map (λ fs. map function_view l.functions.items ++ fs) (all_items map_function_of (items_view (drop l.value-index l.values))) ≡ all_items map_function_of (items_view l.values);
  records : AreConsistent l.functions.items;
}
