use Rattle.std.proofs.Common.{◌≡◌, suc, ◌+◌, ◌-◌, sym, ◌∙◌, arith}
use Rattle.std.proofs.lemmas.Result.{err_from_is_err_and}
use Rattle.dwc_tabs.proofs.InstructionLaws.{passed-none, passed-more, passed-flaw}
use Rattle.dwc_tabs.proofs.instruction.pass_operands.Goals as goal

pub returns-in_err-uleb : goal.returns-in_err-uleb
returns-in_err-uleb c =
    let p = err_from_is_err_and c.from_residual.result c.from_residual.ensures.1 in
    let count : c.args.count - c.loop.counter ≡ suc (c.args.count - (c.loop.counter + 1)) = omega arith in
    rw (p.1, p.2) (sym c.loop.invariant ∙ rw count (passed-flaw _ _ _ c.in_err-uleb.ensures.0))

pub loop-preserved : goal.loop-preserved
loop-preserved c =
    let count : c.args.count - c.loop.counter ≡ suc (c.args.count - (c.loop.counter + 1)) = omega arith in
    let all = rw count at c.loop.invariant in
    sym (passed-more _ _ _ _ c.in_ok-uleb.ensures) ∙ all

pub returns : goal.returns
returns c =
    let none : c.args.count - c.loop.counter ≡ 0 = omega arith in
    let all = rw none at c.loop.invariant in
    sym all ∙ passed-none _
