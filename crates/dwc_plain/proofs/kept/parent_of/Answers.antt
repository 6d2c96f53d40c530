use Rattle.std.proofs.Common.{◌∙◌, sym}
use Rattle.dwc_plain.specs.PlainEntries.{entry_view}
use Rattle.dwc_plain.proofs.PlainLaws.{above_more-at, above_passes-at}
use Rattle.dwc_plain.proofs.kept.parent_of.Goals.{then-is_one_above, else-is_one_above}
use Rattle.dwc_plain.proofs.kept.parent_of.Goals as goal

pub loop-other-preserved : goal.loop-other-preserved
loop-other-preserved c = elim c.if-is_one_above.branch [
  | then-is_one_above w ↦ rw w.found-is (above_more-at (entry_view c.args.entry.now) c.args.entries.now c.loop-other.other-index _ _ c.loop-other-test.true c.if-entry-other.false (sym c.is_one_above.ensures ∙ w.if-is_one_above.true) ∙ c.loop-other.invariant)
  | else-is_one_above w ↦ rw w.found-is (above_passes-at (entry_view c.args.entry.now) c.args.entries.now c.loop-other.other-index _ _ c.loop-other-test.true c.if-entry-other.false (sym c.is_one_above.ensures ∙ w.if-is_one_above.false) ∙ c.loop-other.invariant)
]
