use Rattle.std.proofs.Common.{map}
use Rattle.dwc_isa.specs.CallFrames.{instruction_view}
use Rattle.dwc_map.proofs.TokenFrames.{description-told}
use Rattle.dwc_map.proofs.TokenShapes.{number-told}
use Rattle.dwc_map.proofs.frames_by_tokens.description_inside.Goals as goal

pub returns-clause-told : goal.returns-clause-told
returns-clause-told c =
    let t1 = c.take_name.new.reader in
    let t2 = c.read_number.new.reader in
    let t3 = c.take_name-2.new.reader in
    let t4 = c.read_instructions.new.reader in
    description-told c.args.depth c.args.reader.now t1 t2 t3 t4 c.end_object.new.reader c.in_ok-len.len (map (λ op. (op.0, instruction_view op.1)) (c.in_ok-ops.ops).items) c.in_ok-take_name.ensures
    (number-told c.args.depth t1 t2 c.in_ok-len.len c.in_ok-len.ensures) c.in_ok-take_name-2.ensures c.in_ok-ops.ensures.told c.in_ok-end_object.ensures
