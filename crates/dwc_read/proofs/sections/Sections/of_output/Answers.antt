use Rattle.dwc_read.proofs.NamedLaws.{output-short}
use Rattle.dwc_read.proofs.sections.Sections.of_output.Goals as goal

pub invariant_of-result : goal.invariant_of-result
invariant_of-result c = output-short c.args.sections.now c.requires
