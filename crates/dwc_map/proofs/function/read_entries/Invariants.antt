use Rattle.std.proofs.Common.{◌≡◌, ◌++◌, drop, option_map}
use Rattle.serde_json.specs.View.{items_view}
use Rattle.dwc_map.specs.MapValues.{u32_of, source_of, pair_of, all_items}
use Rattle.dwc_map.proofs.function.read_entries.Given as goal

-- the entries so far, and those of the values to come, are those of all values
abbrev pub invariant-loop-value : goal.invariant-loop-value
invariant-loop-value l = option_map (λ es. l.entries ++ es) (all_items (pair_of u32_of source_of) (items_view (drop l.value-index l.values))) ≡ all_items (pair_of u32_of source_of) (items_view l.values)
