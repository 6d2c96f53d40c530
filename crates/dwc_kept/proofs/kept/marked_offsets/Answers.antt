use Rattle.std.proofs.Common.{◌∙◌, ap}
use Rattle.dwc_kept.proofs.OffsetLaws.{marked-adds, marked-passes}
use Rattle.dwc_kept.proofs.kept.marked_offsets.Goals.{then-marks-i+in_ok-push, else-marks-i}
use Rattle.dwc_kept.proofs.kept.marked_offsets.Goals as goal

pub loop-i-preserved : goal.loop-i-preserved
loop-i-preserved c =
    let es = c.args.entries.now in
    elim c.if-marks-i.branch [
      | then-marks-i+in_ok-push w ↦ marked-adds es c.args.marks.now c.loop-i.i c.loop-i-test.true c.requires c.loop-i.offsets.items _ c.loop-i.invariant c.if-marks-i.offsets.items w.if-marks-i.true (ap (λ v. v.items) w.offsets-is ∙ w.in_ok-push.ensures.items)
      | else-marks-i w ↦ marked-passes es c.args.marks.now c.loop-i.i c.loop-i-test.true c.requires c.loop-i.offsets.items _ c.loop-i.invariant c.if-marks-i.offsets.items w.if-marks-i.false (ap (λ v. v.items) w.offsets-is)
    ]
