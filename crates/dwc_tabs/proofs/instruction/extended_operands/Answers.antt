use Rattle.std.proofs.Common.{refl, arith}
use Rattle.std.proofs.lemmas.Result.{err_from_is_err_and}
use Rattle.dwc_tabs.specs.Headers.{program_header}
use Rattle.dwc_tabs.proofs.InstructionLaws.{extended-address, extended-file, extended-late_file, extended-unknown}
use Rattle.dwc_tabs.proofs.instruction.extended_operands.Goals.{in_default-via-in-3+else-parameters-lt5, in_default-via-in_default-1}
use Rattle.dwc_tabs.proofs.instruction.extended_operands.Goals as goal

pub returns-in_err-address-in-2 : goal.returns-in_err-address-in-2
returns-in_err-address-in-2 c =
    let p = err_from_is_err_and c.from_residual.result c.from_residual.ensures.1 in
    let read = rw c.fork-ahead.ensures at c.in_err-address-in-2.ensures in
    rw (p.1, p.2, c.in-2.is, extended-address c.args.relocations.now (program_header c.args.parameters.now) c.args.cursor.now, read) refl

pub returns-in_err-name-in-3 : goal.returns-in_err-name-in-3
returns-in_err-name-in-3 c =
    let p = err_from_is_err_and c.from_residual-in_err-name-in-3.result c.from_residual-in_err-name-in-3.ensures.1 in
    let read = rw c.fork-ahead-in-3.ensures at c.in_err-name-in-3.ensures.0 in
    rw (p.1, p.2, c.in-3.is, extended-file c.args.relocations.now (program_header c.args.parameters.now) c.args.cursor.now c.if-parameters-lt5.true, read) refl

pub returns-in_err-file-in-3 : goal.returns-in_err-file-in-3
returns-in_err-file-in-3 c =
    let p = err_from_is_err_and c.from_residual-in_err-file-in-3.result c.from_residual-in_err-file-in-3.ensures.1 in
    let name = rw c.fork-ahead-in-3.ensures at c.in_ok-name-in-3.ensures in
    rw (p.1, p.2, c.in-3.is, extended-file c.args.relocations.now (program_header c.args.parameters.now) c.args.cursor.now c.if-parameters-lt5.true, name, c.in_err-file-in-3.ensures) refl

pub returns-in_ok-address-in-2 : goal.returns-in_ok-address-in-2
returns-in_ok-address-in-2 c =
    let read = rw c.fork-ahead.ensures at c.in_ok-address-in-2.ensures in
    rw (c.in-2.is, extended-address c.args.relocations.now (program_header c.args.parameters.now) c.args.cursor.now, read) refl

pub returns-in_ok-file-in-3 : goal.returns-in_ok-file-in-3
returns-in_ok-file-in-3 c =
    let name = rw c.fork-ahead-in-3.ensures at c.in_ok-name-in-3.ensures in
    rw (c.in-3.is, extended-file c.args.relocations.now (program_header c.args.parameters.now) c.args.cursor.now c.if-parameters-lt5.true, name, c.in_ok-file-in-3.ensures) refl

pub returns-in_default : goal.returns-in_default
returns-in_default c =
    elim c.in_default.branch [
      | in_default-via-in-3+else-parameters-lt5 w ↦
          rw (w.in-3.is, extended-late_file c.args.relocations.now (program_header c.args.parameters.now) c.args.cursor.now w.if-parameters-lt5.false) refl
      | in_default-via-in_default-1 w ↦
          extended-unknown c.args.relocations.now (program_header c.args.parameters.now) c.args.opcode c.args.cursor.now (λ e. omega arith) (λ e. omega arith) (λ e. omega arith) (λ e. omega arith)
    ]
