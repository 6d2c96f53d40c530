use Rattle.std.proofs.Common.{arith, rules}
use Rattle.std.proofs.lemmas.Fmt.{length-decimal-le}
use Rattle.dwc_cli.proofs.backward.short_before.Goals as goal

pub write_digits-requires : goal.write_digits-requires
write_digits-requires c = (omega (arith, length-decimal-le 10 c.from.result (omega arith) (omega (arith, c.from.ensures, c.ranges.number.fits)) (omega (arith, c.from.ensures, c.ranges.number.fits))), search rules)

pub returns-clause-start : goal.returns-clause-start
returns-clause-start c =
    let short = length-decimal-le 10 c.from.result (omega arith) (omega (arith, c.from.ensures, c.ranges.number.fits)) (omega (arith, c.from.ensures, c.ranges.number.fits)) in
    (omega (arith, short), omega (arith, short))
