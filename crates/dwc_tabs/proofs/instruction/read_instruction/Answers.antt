use Rattle.std.proofs.Common.{◌<◌, arith}
use Rattle.dwc_tabs.specs.Headers.{program_header}
use Rattle.dwc_tabs.proofs.InstructionLaws.{instruction-special, instruction-extended, instruction-standard}
use Rattle.dwc_tabs.proofs.instruction.read_instruction.Goals as goal

pub returns-then-opcode-parameters : goal.returns-then-opcode-parameters
returns-then-opcode-parameters c = instruction-special c.args.relocations.now (program_header c.args.parameters.now) _ _ _ c.in_ok-opcode.ensures (omega arith)

pub returns-then-opcode-eq-EXTENDED : goal.returns-then-opcode-eq-EXTENDED
returns-then-opcode-eq-EXTENDED c =
    let is = instruction-extended c.args.relocations.now (program_header c.args.parameters.now) _ _ _ c.in_ok-opcode.ensures c.if-opcode-parameters.false c.if-opcode-eq-EXTENDED.true in
    rw is c.extended_instruction.ensures

pub returns : goal.returns
returns c =
    let some : 0 < c.in_ok-opcode.opcode = omega (arith, c.if-opcode-eq-EXTENDED.false) in
    let is = instruction-standard c.args.relocations.now (program_header c.args.parameters.now) _ _ _ c.in_ok-opcode.ensures c.if-opcode-parameters.false some in
    rw is c.standard_instruction.ensures
