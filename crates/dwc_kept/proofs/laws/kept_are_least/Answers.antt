use Rattle.dwc_kept.proofs.KeptLaws.{are-least}
use Rattle.dwc_kept.proofs.laws.kept_are_least.Goals as goal

pub returns : goal.returns
returns c = are-least
