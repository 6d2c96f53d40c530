use Rattle.std.proofs.Common.{◌++◌, OnOk, option_to_list, subst}
use Rattle.dwc_expr.specs.NeededLabels.{HaveSameFirsts, numbers}
use Rattle.dwc_expr.proofs.build.labels.add_label_of.Goals as goal

pub returns-in-Some-clause-labels : goal.returns-in-Some-clause-labels
returns-in-Some-clause-labels c =
    subst (λ o. OnOk c.add_label.result (HaveSameFirsts (numbers c.add_label.new.labels.items) (numbers c.args.labels.now.items ++ option_to_list o))) c.in-Some.ensures c.add_label.ensures.labels
