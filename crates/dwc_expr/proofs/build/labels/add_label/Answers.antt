use Rattle.std.proofs.Common.{◌∙◌, sym}
use Rattle.dwc_expr.specs.NeededLabels.{numbers}
use Rattle.dwc_expr.proofs.FirstLaws.{there-already, not-false}
use Rattle.dwc_expr.proofs.build.labels.add_label.Goals as goal

pub returns-else-branch-clause-labels : goal.returns-else-branch-clause-labels
returns-else-branch-clause-labels c =
    there-already (numbers c.args.labels.now.items) c.args.label.0 (sym (c.requires c.args.label.0) ∙ not-false _ (sym c.in_ok-insert.ensures.added ∙ c.if-branch.false))
