use Rattle.std.proofs.Common.{◌≡◌, ◌++◌, map, drop, option_map}
use Rattle.serde_json.specs.View.{items_view}
use Rattle.dwc_isa.specs.CallFrames.{instruction_view}
use Rattle.dwc_map.specs.MapFrames.{instruction_of}
use Rattle.dwc_map.specs.MapValues.{all_items}
use Rattle.dwc_map.proofs.frames.read_instructions.Given as goal

-- the instructions so far, and those of the values to come, are those of all values
abbrev pub invariant-loop-value : goal.invariant-loop-value
invariant-loop-value l = option_map (λ is. map instruction_view l.ops.items ++ is) (all_items instruction_of (items_view (drop l.value-index l.values))) ≡ all_items instruction_of (items_view l.values)
