use Rattle.std.proofs.Common.{◌≡◌, ◌+◌, ◌-◌, arith, rules}
use Rattle.std.proofs.lemmas.Fmt.{length-decimal-le, decimal_digit}
use Rattle.std.proofs.lemmas.List.{drop-set}
use Rattle.dwc_cli.proofs.backward.size_before.Goals as goal

pub returns-then-size-lt10-clause-text : goal.returns-then-size-lt10-clause-text
returns-then-size-lt10-clause-text c =
    let e : c.args.end - 1 + 1 ≡ c.args.end = omega arith in
    rw (drop-set c.args.line.now (c.args.end - 1) _ (omega arith), e, decimal_digit c.args.size c.if-size-lt10.true)

pub write_digits-requires : goal.write_digits-requires
write_digits-requires c = (omega (arith, length-decimal-le 3 c.from.result (omega arith) (omega (arith, c.from.ensures, c.ranges.size.fits)) (omega (arith, c.from.ensures, c.ranges.size.fits))), search rules)

pub returns-clause-start : goal.returns-clause-start
returns-clause-start c =
    let short = length-decimal-le 3 c.from.result (omega arith) (omega (arith, c.from.ensures, c.ranges.size.fits)) (omega (arith, c.from.ensures, c.ranges.size.fits)) in
    (omega (arith, short), omega (arith, short))
