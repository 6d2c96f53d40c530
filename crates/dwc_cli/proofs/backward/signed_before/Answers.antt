use Rattle.std.proofs.Common.{◌≡◌, ◌+◌, ◌-◌, ◌++◌, drop, ap, arith, to_z-of_z}
use Rattle.std.proofs.lemmas.List.{drop-set}
use Rattle.itoa.proofs.Decimal.{minus_first}
use Rattle.dwc_cli.proofs.backward.signed_before.Goals as goal

pub returns-clause-text : goal.returns-clause-text
returns-clause-text c =
    let w = c.short_before-start in
    let e : w.result - 1 + 1 ≡ w.result = omega (arith, w.ensures.start.0, c.requires.0) in
    let back = to_z-of_z c.ranges.number in
    rw (drop-set w.new.line (w.result - 1) 45 (omega (arith, w.ensures.start.0, w.ensures.start.1, c.requires.0, c.requires.1)), e, w.ensures.text, c.unsigned_abs.ensures.value, back)
    (ap (λ xs. xs ++ drop c.args.end c.args.line.now) (minus_first c.args.number (rw back at c.if-number-ge0.false)))
