use Rattle.std.proofs.Common.{◌≡◌, Some, None, map, arith}
use Rattle.json.specs.Json.{after_end_array}
use Rattle.dwc_isa.specs.CallFrames.{instruction_view}
use Rattle.dwc_map.specs.MapFrames.{instruction_of}
use Rattle.dwc_map.specs.MapValues.{pair_of, u32_of}
use Rattle.dwc_map.proofs.TokenLists.{items-over, items-pushed}
use Rattle.dwc_map.proofs.frames_by_tokens.instructions_inside.Goals as goal

pub items-preserved : goal.items-preserved
items-preserved c =
    let l = c.items in
    let going : (after_end_array l.reader ≡ None) × (c.take_end_array.new.self ≡ l.reader) = grind arith in
    items-pushed (pair_of u32_of instruction_of) c.args.depth (λ op. (op.0, instruction_view op.1)) c.args.reader.now l.reader c.take_end_array.new.self c.read_placed_instruction.new.reader l.ops.items _ c.in_ok-op.op going c.in_ok-op.ensures.told c.in_ok-op.ensures.shorter c.in_ok-push.ensures.items l.invariant

pub returns-clause-told : goal.returns-clause-told
returns-clause-told c =
    let l = c.items in
    let r = c.take_end_array.new.self in
    let over : after_end_array l.reader ≡ Some r = grind arith in
    items-over (pair_of u32_of instruction_of) c.args.depth c.args.reader.now l.reader r (map (λ op. (op.0, instruction_view op.1)) l.ops.items) over l.invariant
