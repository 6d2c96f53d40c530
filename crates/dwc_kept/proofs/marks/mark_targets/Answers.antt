use Rattle.std.proofs.Common.{arith, sym}
use Rattle.dwc_kept.proofs.NumberLaws.{number-found}
use Rattle.dwc_kept.proofs.marks.mark_targets.Goals as goal

pub mark-requires : goal.mark-requires
mark-requires c = omega (arith, (number-found c.args.entries.now _ c.in-Some.number (sym c.in-Some.ensures)).0, c.loop-target.auto.marks, c.requires.counted)
