use Rattle.std.proofs.Common.{[]}
use Rattle.std.proofs.lemmas.List.Elements.{All-cons, All-nil}
use Rattle.dwc_base.specs.TranslationNames.{HasSortedNames}
use Rattle.dwc_trials.proofs.carried.a_subprogram_and_its_root_are_kept.Goals as goal

-- the one module's names are sorted
pub kept_of-requires-clause-sorted : goal.kept_of-requires-clause-sorted
kept_of-requires-clause-sorted g c = rw c.from_ref.ensures.value (All-cons HasSortedNames _ [] c.in_ok-module.ensures.sorted (All-nil HasSortedNames))
