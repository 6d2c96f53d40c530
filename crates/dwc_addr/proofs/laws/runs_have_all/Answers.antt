use Rattle.dwc_addr.proofs.HasLaws.{runs-have_all}
use Rattle.dwc_addr.proofs.laws.runs_have_all.Goals as goal

pub returns : goal.returns
returns c = runs-have_all
