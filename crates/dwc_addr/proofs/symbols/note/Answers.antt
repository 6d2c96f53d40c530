use Rattle.std.proofs.Common.{◌∙◌, sym, refl}
use Rattle.dwc_addr.proofs.SymbolLaws.{holder-pass}
use Rattle.dwc_addr.proofs.symbols.note.Goals as goal

pub returns-in-None : goal.returns-in-None
returns-in-None c = λ before index len. rw c.in-None.is (refl, λ q. index q ∙ sym (holder-pass q before))
