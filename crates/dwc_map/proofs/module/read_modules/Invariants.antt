use Rattle.std.proofs.Common.{◌≡◌, ◌++◌, map, drop, option_map}
use Rattle.serde_json.specs.View.{items_view}
use Rattle.dwc_map.specs.MapViews.{module_view, ModulesAreConsistent}
use Rattle.dwc_map.specs.MapFile.{map_module_of}
use Rattle.dwc_map.specs.MapValues.{all_items}
use Rattle.dwc_map.proofs.module.read_modules.Given as goal

-- the modules so far, and those of the values to come, are those of all values
abbrev pub invariant-loop-value : goal.invariant-loop-value
invariant-loop-value l = record {
  value : option_map (λ ms. map module_view l.modules.items ++ ms) (all_items map_module_of (items_view (drop l.value-index l.values))) ≡ all_items map_module_of (items_view l.values);
  records : ModulesAreConsistent l.modules.items;
}
