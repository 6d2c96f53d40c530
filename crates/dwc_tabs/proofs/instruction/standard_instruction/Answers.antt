use Rattle.std.proofs.Common.{◌<◌, refl, sym, ap, arith, rules, w64, Ok}
use Rattle.std.proofs.lemmas.Result.{err_from_is_err_and}
use Rattle.std.proofs.lemmas.Int.{to_z-of_z}
use mir.Val.{SFits}
use Rattle.dwc_dwarf.specs.LineHeaders.{advance_line, operand_at}
use Rattle.dwc_tabs.proofs.InstructionLaws.{standard-unknown, coded-none}
use Rattle.dwc_tabs.specs.Headers.{program_header}
use Rattle.dwc_tabs.specs.Instructions.{standard_at}
use Rattle.dwc_tabs.proofs.instruction.standard_instruction.Goals as goal

pub returns-in-1 : goal.returns-in-1
unfolding standard_at operand_at
returns-in-1 c = rw c.in-1.is refl

pub returns-in_err-uleb-in-2 : goal.returns-in_err-uleb-in-2
unfolding standard_at operand_at
returns-in_err-uleb-in-2 c =
    let p = err_from_is_err_and c.from_residual.result c.from_residual.ensures.1 in
    rw (p.1, p.2, c.in-2.is, c.in_err-uleb-in-2.ensures.0) refl

pub returns-in_ok-uleb-in-2 : goal.returns-in_ok-uleb-in-2
unfolding standard_at operand_at
returns-in_ok-uleb-in-2 c = rw (c.in-2.is, c.in_ok-uleb-in-2.ensures) refl

pub returns-in_err-sleb-in-3 : goal.returns-in_err-sleb-in-3
unfolding standard_at operand_at
returns-in_err-sleb-in-3 c =
    let p = err_from_is_err_and c.from_residual-in_err-sleb-in-3.result c.from_residual-in_err-sleb-in-3.ensures.1 in
    rw (p.1, p.2, c.in-3.is, c.in_err-sleb-in-3.ensures.0) refl

pub returns-in_ok-sleb-in-3 : goal.returns-in_ok-sleb-in-3
unfolding standard_at operand_at
returns-in_ok-sleb-in-3 c =
    let fits : SFits w64 c.in_ok-sleb-in-3.field-0 = search rules in
    rw (c.in-3.is, c.in_ok-sleb-in-3.ensures) (ap (λ n. Ok (advance_line n, c.sleb.new.self)) (sym (to_z-of_z w64 c.in_ok-sleb-in-3.field-0 fits)))

pub returns-in_err-uleb-in-4 : goal.returns-in_err-uleb-in-4
unfolding standard_at operand_at
returns-in_err-uleb-in-4 c =
    let p = err_from_is_err_and c.from_residual-in_err-uleb-in-4.result c.from_residual-in_err-uleb-in-4.ensures.1 in
    rw (p.1, p.2, c.in-4.is, c.in_err-uleb-in-4.ensures.0) refl

pub returns-in_ok-uleb-in-4 : goal.returns-in_ok-uleb-in-4
unfolding standard_at operand_at
returns-in_ok-uleb-in-4 c = rw (c.in-4.is, c.in_ok-uleb-in-4.ensures) refl

pub returns-in_err-uleb-in-5 : goal.returns-in_err-uleb-in-5
unfolding standard_at operand_at
returns-in_err-uleb-in-5 c =
    let p = err_from_is_err_and c.from_residual-in_err-uleb-in-5.result c.from_residual-in_err-uleb-in-5.ensures.1 in
    rw (p.1, p.2, c.in-5.is, c.in_err-uleb-in-5.ensures.0) refl

pub returns-in_ok-uleb-in-5 : goal.returns-in_ok-uleb-in-5
unfolding standard_at operand_at
returns-in_ok-uleb-in-5 c = rw (c.in-5.is, c.in_ok-uleb-in-5.ensures) refl

pub returns-in-6 : goal.returns-in-6
unfolding standard_at operand_at
returns-in-6 c = rw c.in-6.is refl

pub returns-in-7 : goal.returns-in-7
unfolding standard_at operand_at
returns-in-7 c = rw c.in-7.is refl

pub returns-in-8 : goal.returns-in-8
unfolding standard_at operand_at
returns-in-8 c = rw c.in-8.is refl

pub returns-in_err-u16-in-9 : goal.returns-in_err-u16-in-9
unfolding standard_at operand_at
returns-in_err-u16-in-9 c =
    let p = err_from_is_err_and c.from_residual-in_err-u16-in-9.result c.from_residual-in_err-u16-in-9.ensures.1 in
    rw (p.1, p.2, c.in-9.is, c.in_err-u16-in-9.ensures.0) refl

pub returns-in_ok-u16-in-9 : goal.returns-in_ok-u16-in-9
unfolding standard_at operand_at
returns-in_ok-u16-in-9 c = rw (c.in-9.is, c.in_ok-u16-in-9.ensures) refl

pub returns-in-10 : goal.returns-in-10
unfolding standard_at operand_at
returns-in-10 c = rw c.in-10.is refl

pub returns-in-11 : goal.returns-in-11
unfolding standard_at operand_at
returns-in-11 c = rw c.in-11.is refl

pub returns-in_err-uleb-in-12 : goal.returns-in_err-uleb-in-12
unfolding standard_at operand_at
returns-in_err-uleb-in-12 c =
    let p = err_from_is_err_and c.from_residual-in_err-uleb-in-12.result c.from_residual-in_err-uleb-in-12.ensures.1 in
    rw (p.1, p.2, c.in-12.is, c.in_err-uleb-in-12.ensures.0) refl

pub returns-in_ok-uleb-in-12 : goal.returns-in_ok-uleb-in-12
unfolding standard_at operand_at
returns-in_ok-uleb-in-12 c = rw (c.in-12.is, c.in_ok-uleb-in-12.ensures) refl

pub returns-in_err-passed-in_default : goal.returns-in_err-passed-in_default
returns-in_err-passed-in_default c =
    let p = err_from_is_err_and c.from_residual-in_err-passed-in_default.result c.from_residual-in_err-passed-in_default.ensures.1 in
    let high : 12 < c.args.opcode = omega arith in
    let passed = rw c.fork-ahead.ensures at c.in_err-passed-in_default.ensures in
    rw (p.1, p.2, standard-unknown (program_header c.args.parameters.now) c.args.opcode c.args.cursor.now (coded-none c.args.opcode high)) passed

pub returns-in_ok-passed-in_default : goal.returns-in_ok-passed-in_default
returns-in_ok-passed-in_default c =
    let high : 12 < c.args.opcode = omega arith in
    let passed = rw c.fork-ahead.ensures at c.in_ok-passed-in_default.ensures in
    rw (standard-unknown (program_header c.args.parameters.now) c.args.opcode c.args.cursor.now (coded-none c.args.opcode high)) passed
