use Rattle.std.proofs.Common.{◌-◌, arith}
use Rattle.dwc_isa.specs.CallFrames.{instruction_view}
use Rattle.dwc_map.specs.MapFrames.{instruction_of}
use Rattle.dwc_map.specs.MapValues.{u32_of}
use Rattle.dwc_map.proofs.TokenShapes.{number-told, pair-told}
use Rattle.dwc_map.proofs.frames_by_tokens.read_placed_instruction.Goals as goal

pub returns-clause-told : goal.returns-clause-told
returns-clause-told c =
    let start = c.begin_list.new.reader in
    let mid = c.read_number.new.reader in
    pair-told u32_of instruction_of c.args.depth c.args.reader.now start mid c.read_instruction.new.reader c.end_list.new.reader c.in_ok-code_offset.code_offset (instruction_view c.in_ok-op.op) (omega (arith, c.requires)) c.in_ok-begin_list.ensures
    (number-told (c.args.depth - 1) start mid c.in_ok-code_offset.code_offset c.in_ok-code_offset.ensures) c.in_ok-op.ensures.told c.in_ok-end_list.ensures
