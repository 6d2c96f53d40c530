use Rattle.std.proofs.Common.{◌≡◌, ◌++◌, map, drop, option_map}
use Rattle.serde_json.specs.View.{items_view}
use Rattle.dwc_isa.specs.Registers.{numbers}
use Rattle.dwc_map.specs.MapValues.{u32_of, u16_of, pair_of, all_items}
use Rattle.dwc_map.proofs.registers.read_pairs.Given as goal

-- the pairs so far, and those of the values to come, are those of all values
abbrev pub invariant-loop-value : goal.invariant-loop-value
invariant-loop-value l = option_map (λ ps. map numbers l.pairs.items ++ ps) (all_items (pair_of u32_of u16_of) (items_view (drop l.value-index l.values))) ≡ all_items (pair_of u32_of u16_of) (items_view l.values)
