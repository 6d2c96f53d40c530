use Rattle.dwc_expr.specs.NeededLabels.{numbers}
use Rattle.dwc_expr.proofs.LabelLaws.{part-more}
use Rattle.dwc_expr.proofs.build.labels.add_labels.Goals as goal

pub loop-part-preserved : goal.loop-part-preserved
loop-part-preserved c = record {
  set = c.in_ok-add_label_of.ensures.set;
  labels = part-more c.args.parts.now c.loop-part.part-index c.part-item.result (numbers c.loop-part.labels.items) _ _ c.loop-part-test.true c.part-item.is c.in_ok-add_label_of.ensures.labels c.loop-part.invariant.labels;
}
