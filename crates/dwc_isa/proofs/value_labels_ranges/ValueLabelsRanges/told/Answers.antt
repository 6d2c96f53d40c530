use Rattle.dwc_isa.proofs.LabelLaws.{get-labelled}
use Rattle.dwc_isa.proofs.value_labels_ranges.ValueLabelsRanges.told.Goals as goal

pub returns : goal.returns
returns c = rw (← c.self.view_is, get-labelled c.self.inside.by_label.entries c.args.label.0) c.get.ensures.value
