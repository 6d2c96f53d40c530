use Rattle.std.proofs.Common.{[]}
use Rattle.std.proofs.lemmas.List.Elements.{All-cons, All-nil}
use Rattle.dwc_base.specs.TranslationNames.{HasSortedNames}
use Rattle.dwc_trials.proofs.refusals.is_refused_alike_when_given_again.Goals as goal

-- the one module's names are sorted
pub given_twice-requires-clause-sorted : goal.given_twice-requires-clause-sorted
given_twice-requires-clause-sorted g c = rw c.from_ref.ensures.value (All-cons HasSortedNames _ [] c.in_ok-module.ensures.sorted (All-nil HasSortedNames))
