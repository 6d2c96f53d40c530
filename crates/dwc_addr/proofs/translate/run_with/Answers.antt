use Rattle.std.proofs.Common.{◌≡◌, ℕ, suc, ◌∙◌, arith, length}
use Rattle.dwc_addr.proofs.TranslateLaws.{none-with}
use Rattle.dwc_addr.proofs.translate.run_with.Goals as goal

pub returns-clause-run : goal.returns-clause-run
returns-clause-run c =
    let m = c.args.function.now in
    let number : ℕ = c.loop-number.number in
    let last : number ≡ suc (length m.later_runs.items) = omega (arith, c.loop-number-test.false, c.loop-number.auto.number-end, c.run_count-number-end.ensures) in
    none-with m c.args.addr number last ∙ c.loop-number.invariant
