use Rattle.dwc_addr.proofs.AscendLaws.{translations-ascend}
use Rattle.dwc_addr.proofs.laws.translations_ascend.Goals as goal

pub returns : goal.returns
returns c = translations-ascend
