use Rattle.dwc_write.proofs.ShapePlaces.{forms-differ}
use Rattle.dwc_write.proofs.abbreviations.are_forms_of.Goals as goal

pub returns-then-forms-attributes : goal.returns-then-forms-attributes
returns-then-forms-attributes c = forms-differ c.args.forms.now c.args.attributes.now c.if-forms-attributes.true
