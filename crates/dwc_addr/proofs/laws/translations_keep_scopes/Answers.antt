use Rattle.dwc_addr.proofs.KeepLaws.{translations-keep_scopes, made-numbered}
use Rattle.dwc_addr.proofs.laws.translations_keep_scopes.Goals as goal

pub returns-clause-keep : goal.returns-clause-keep
returns-clause-keep c = translations-keep_scopes

pub returns-clause-made : goal.returns-clause-made
returns-clause-made c = made-numbered
