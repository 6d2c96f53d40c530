use Rattle.std.proofs.Common.{◌≡◌, ◌++◌, map, drop, option_map}
use Rattle.serde_json.specs.View.{items_view}
use Rattle.dwc_isa.specs.CallFrames.{instruction_view}
use Rattle.dwc_map.specs.MapFrames.{instruction_of}
use Rattle.dwc_map.specs.MapValues.{u32_of, pair_of, all_items}
use Rattle.dwc_map.proofs.frames.read_placed_instructions.Given as goal

-- the instructions so far with their code offsets, and those of the values to come, are those of all values
abbrev pub invariant-loop-value : goal.invariant-loop-value
invariant-loop-value l = option_map (λ is. map (λ op. (op.0, instruction_view op.1)) l.ops.items ++ is) (all_items (pair_of u32_of instruction_of) (items_view (drop l.value-index l.values))) ≡ all_items (pair_of u32_of instruction_of) (items_view l.values)
