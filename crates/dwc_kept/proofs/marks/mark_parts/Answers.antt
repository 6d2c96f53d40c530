use Rattle.std.proofs.Common.{arith, sym, ◌∙◌}
use Rattle.dwc_kept.proofs.PartWalks.{walk-begins, walk-ends, walk-falls, walk-goes}
use Rattle.dwc_kept.proofs.marks.mark_parts.Goals as goal

pub loop-part-init : goal.loop-part-init
loop-part-init c = walk-begins c.args.entries.now c.requires.linked c.args.number _ c.requires.inside

pub mark-requires : goal.mark-requires
mark-requires c = omega (arith, c.loop-part.invariant.0.inside, c.loop-part.auto.marks, c.requires.counted)

pub bounds-entries-part : goal.bounds-entries-part
bounds-entries-part c = c.loop-part.invariant.0.inside

pub loop-part-smaller : goal.loop-part-smaller
loop-part-smaller c = walk-falls c.args.entries.now c.requires.linked c.args.number c.loop-part.part c.loop-part-test.true c.loop-part.invariant.0

pub loop-part-preserved : goal.loop-part-preserved
loop-part-preserved c =
    let next = walk-goes c.args.entries.now c.requires.linked c.args.number c.loop-part.part _ _ c.loop-part-test.true c.loop-part.invariant.0 c.in_ok-mark.ensures in
    (next.0, next.1 ∙ c.loop-part.invariant.1)

pub returns : goal.returns
returns c = sym (walk-ends c.args.entries.now c.requires.linked c.args.number c.loop-part.part _ c.requires.inside c.loop-part-test.false) ∙ c.loop-part.invariant.1
