use Rattle.std.proofs.Common.{ap, ◌∙◌}
use Rattle.std.specs.FinMap as finite
use Rattle.dwc_isa.specs.ValueLabels.{labelled_by}
use Rattle.dwc_isa.proofs.LabelLaws.{insert-labelled}
use Rattle.dwc_isa.proofs.value_labels_ranges.ValueLabelsRanges.insert.Goals as goal

pub returns-clause-ok : goal.returns-clause-ok
returns-clause-ok c =
    rw (← c.self.view_is)
    (insert-labelled c.self.inside.by_label.entries c.insert.new.self.entries c.args.label.0 c.in_ok-told.told c.in_ok-insert.ensures.updates.0
    ∙ ap (λ ranges. finite.insert (labelled_by c.self.inside.by_label.entries) c.args.label.0 ranges) c.in_ok-told.ensures)
