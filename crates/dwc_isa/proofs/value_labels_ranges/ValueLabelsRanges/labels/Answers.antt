use Rattle.std.proofs.Common.{sym, ◌∙◌}
use Rattle.dwc_isa.proofs.LabelLaws.{keys-labelled}
use Rattle.dwc_isa.proofs.value_labels_ranges.ValueLabelsRanges.labels.Goals as goal

pub returns : goal.returns
returns c = rw (← c.self.view_is) (c.keys.ensures.rest ∙ sym (keys-labelled c.self.inside.by_label.entries c.keys.ensures.ordered))
