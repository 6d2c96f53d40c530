use Rattle.std.proofs.Common.{add-one}
use Rattle.std.proofs.lemmas.Result.{err_from_is_err_and}
use Rattle.dwc_write.specs.SpelledRelocations.{sequence_bytes, sequence_relocations}
use Rattle.dwc_unit.specs.GivenLines.{FitsGivenSequence}
use Rattle.dwc_unit.specs.LineViews.{sequence_view}
use Rattle.dwc_section.proofs.WritesLaws.{all-seen, loop-more, loop-refused, loop-done}
use Rattle.dwc_write.proofs.tables.put_sequences.Goals as goal

pub write_sequence-requires-clause-fits : goal.write_sequence-requires-clause-fits
write_sequence-requires-clause-fits c = rw (c.index-sequences-i.is) (all-seen (FitsGivenSequence c.args.size) sequence_view c.args.sequences.now c.loop-i.i c.index-sequences-i.result c.loop-i-test.true c.requires.fits)

pub loop-i-preserved : goal.loop-i-preserved
loop-i-preserved c =
    rw add-one
    (loop-more (λ o q. sequence_bytes o c.args.size q) (λ o p q. sequence_relocations o c.args.size p q) sequence_view c.args.sequences.now c.loop-i.i c.index-sequences-i.result c.args.line.now c.loop-i.line _ c.loop-i-test.true c.loop-i.invariant
    (rw (← c.index-sequences-i.is) c.in_ok-write_sequence.ensures))

pub returns-in_err-write_sequence : goal.returns-in_err-write_sequence
returns-in_err-write_sequence c =
    let p = err_from_is_err_and c.from_residual.result c.from_residual.ensures.1 in
    loop-refused (λ o q. sequence_bytes o c.args.size q) (λ o p q. sequence_relocations o c.args.size p q) sequence_view c.args.sequences.now c.loop-i.i c.index-sequences-i.result c.args.line.now c.loop-i.line _ _ _ _ c.loop-i-test.true c.loop-i.invariant p
    (rw (← c.index-sequences-i.is) c.in_err-write_sequence.ensures)

pub returns : goal.returns
returns c = loop-done (sequence_bytes c.args.line.now.order c.args.size) (sequence_relocations c.args.line.now.order c.args.size) sequence_view c.args.sequences.now c.loop-i.i c.loop-i.line _ c.loop-i-test.false c.loop-i.invariant
