use Rattle.dwc_addr.proofs.AddendLaws.{translations-are_said}
use Rattle.dwc_addr.proofs.laws.translations_are_said.Goals as goal

pub returns : goal.returns
returns c = translations-are_said
