use Rattle.std.proofs.Common.{map, arith, ◌-◌}
use Rattle.dwc_isa.specs.CallFrames.{instruction_view}
use Rattle.dwc_map.specs.ByTokens.{Tells, TellsItems}
use Rattle.dwc_map.specs.MapFrames.{instruction_of}
use Rattle.dwc_map.specs.MapValues.{list_of, pair_of, u32_of}
use Rattle.dwc_map.proofs.TokenLists.{if-ok, list-told}
use Rattle.dwc_map.proofs.frames_by_tokens.read_instructions.Goals as goal

pub returns-clause-told : goal.returns-clause-told
returns-clause-told c =
    let d = c.args.depth in
    let start = c.begin_list.new.reader in
    let rest = c.instructions_inside.new.reader in
    if-ok (λ xs. TellsItems (d - 1) (pair_of u32_of instruction_of) start (map (λ op. (op.0, instruction_view op.1)) xs.items) rest) (λ xs. Tells d (list_of (pair_of u32_of instruction_of)) c.args.reader.now (map (λ op. (op.0, instruction_view op.1)) xs.items) rest) c.instructions_inside.result
    (λ xs read. list-told (pair_of u32_of instruction_of) d c.args.reader.now start rest (map (λ op. (op.0, instruction_view op.1)) xs.items) (omega (arith, c.requires)) c.in_ok-begin_list.ensures read) c.instructions_inside.ensures.told
