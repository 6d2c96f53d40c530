use Rattle.std.proofs.Common.{map, length}
use Rattle.dwc_isa.specs.CallFrames.{instruction_view}
use Rattle.dwc_map.specs.MapFrames.{instruction_of}
use Rattle.dwc_map.specs.MapValues.{pair_of, u32_of}
use Rattle.dwc_map.proofs.TokenLists.{ItemsAlong}
use Rattle.dwc_map.proofs.frames_by_tokens.instructions_inside.Given as goal

-- the items so far, and those to come, are those of the list
abbrev pub invariant-items : goal.invariant-items
invariant-items l = ItemsAlong (pair_of u32_of instruction_of) l.depth l.fn.reader l.reader (map (λ op. (op.0, instruction_view op.1)) l.ops.items)

abbrev pub decreases-items : goal.decreases-items
decreases-items l = length l.reader
