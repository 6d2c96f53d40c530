use Rattle.std.proofs.Common.{◌++◌, ap, subst}
use Rattle.dwc_expr.specs.NeededLabels.{HaveSameFirsts, numbers}
use Rattle.dwc_expr.proofs.LabelLaws.{labels-with, labels-without, needed}
use Rattle.dwc_expr.proofs.build.labels.needed_labels.Goals as goal
use Rattle.dwc_expr.proofs.build.labels.needed_labels.Goals.{then-parts+in_ok-add_label, else-parts}

pub returns : goal.returns
returns c =
    let parts = c.args.parts.now in
    let before = subst (λ ls. HaveSameFirsts (numbers c.add_labels.new.labels.items) (numbers ls ++ needed parts.parts.now)) c.new-labels.ensures.items c.in_ok-add_labels.ensures.labels in
    let so_far = numbers c.add_labels.new.labels.items in
    elim c.if-parts.branch [
      | then-parts+in_ok-add_label w ↦ labels-with parts.parts.now parts.then_dereference so_far (numbers c.if-parts.labels.items) before _ w.if-parts.true w.get_vmctx_value_label.ensures (rw w.labels-is w.in_ok-add_label.ensures.labels)
      | else-parts w ↦ labels-without parts.parts.now parts.then_dereference so_far (numbers c.if-parts.labels.items) before w.if-parts.false (ap (λ v. numbers v.items) w.labels-is)
    ]
