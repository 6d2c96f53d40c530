use Rattle.std.proofs.Common.{Some, ap, ◌∙◌}
use Rattle.dwc_isa.proofs.LabelLaws.{get-labelled}
use Rattle.dwc_isa.proofs.value_labels_ranges.ValueLabelsRanges.get.Goals as goal

pub returns-in-Some : goal.returns-in-Some
returns-in-Some c = rw (← c.self.view_is, get-labelled c.self.inside.by_label.entries c.args.label.0) (ap Some c.as_slice.ensures ∙ c.in-Some.ensures.value)

pub returns-in-None : goal.returns-in-None
returns-in-None c = rw (← c.self.view_is, get-labelled c.self.inside.by_label.entries c.args.label.0) c.in-None.ensures.value
