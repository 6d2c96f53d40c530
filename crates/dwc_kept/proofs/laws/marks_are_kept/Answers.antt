use Rattle.dwc_kept.proofs.MarkLaws.{marks-are-kept}
use Rattle.dwc_kept.proofs.laws.marks_are_kept.Goals as goal

pub returns : goal.returns
returns c = marks-are-kept
