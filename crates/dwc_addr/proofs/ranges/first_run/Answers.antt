use Rattle.std.proofs.Common.{◌∙◌, arith}
use Rattle.dwc_addr.proofs.TranslateLaws.{ranges-all, ranges-beyond, ranges-nothing}
use Rattle.dwc_addr.proofs.ranges.first_run.Goals as goal

pub returns-then-start-end : goal.returns-then-start-end
returns-then-start-end c = ranges-all c.args.function.now c.args.start c.args.end c.if-start-end.true

pub returns-else-start-end : goal.returns-else-start-end
returns-else-start-end c =
    let m = c.args.function.now in
    ranges-beyond m c.args.start c.args.end c.run_count.result (omega (arith, c.run_count.ensures)) ∙ ranges-nothing m c.args.start c.args.end (omega (arith, c.if-start-end.false))
