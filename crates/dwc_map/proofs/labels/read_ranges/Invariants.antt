use Rattle.std.proofs.Common.{◌≡◌, ◌++◌, map, drop, option_map}
use Rattle.serde_json.specs.View.{items_view}
use Rattle.dwc_isa.specs.ValueLabels.{range_view}
use Rattle.dwc_map.specs.MapFile.{label_range_of}
use Rattle.dwc_map.specs.MapValues.{all_items}
use Rattle.dwc_map.proofs.labels.read_ranges.Given as goal

-- the ranges so far, and those of the values to come, are those of all values
abbrev pub invariant-loop-value : goal.invariant-loop-value
invariant-loop-value l = option_map (λ rs. map range_view l.ranges.items ++ rs) (all_items label_range_of (items_view (drop l.value-index l.values))) ≡ all_items label_range_of (items_view l.values)
