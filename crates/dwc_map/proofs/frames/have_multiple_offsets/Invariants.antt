use Rattle.std.proofs.Common.{◌≡◌, map, drop}
use Rattle.std.specs.List.{list_all}
use Rattle.dwc_native.specs.CallFrames.{has_factored_offset}
use Rattle.dwc_isa.specs.CallFrames.{instruction_view}
use Rattle.dwc_map.proofs.frames.have_multiple_offsets.Given as goal

-- the instructions so far are factored, so those to come decide
abbrev pub invariant-loop-op : goal.invariant-loop-op
invariant-loop-op l = list_all (has_factored_offset l.fn.factor) (map instruction_view (drop l.op-index l.ops)) ≡ list_all (has_factored_offset l.fn.factor) (map instruction_view l.ops)
