use Rattle.std.proofs.Common.{◌∙◌, sym, arith}
use Rattle.dwc_addr.proofs.TranslateLaws.{ranges-beyond}
use Rattle.dwc_addr.proofs.ranges.range_behind.Goals as goal

pub returns-clause-range : goal.returns-clause-range
returns-clause-range c =
    sym c.loop-place.invariant ∙ ranges-beyond c.args.function.now c.args.start c.args.end c.loop-place.place (omega (arith, c.loop-place-test.false, c.run_count.ensures))
