use Rattle.std.proofs.Common.{ap, sym, ◌∙◌, Some}
use Rattle.dwc_extents.proofs.bounds.is_own_list.Goals as goal

pub returns-in-Some : goal.returns-in-Some
returns-in-Some c = λ same. sym c.in-Some.ensures ∙ ap Some (c.is_same_list.ensures same)
