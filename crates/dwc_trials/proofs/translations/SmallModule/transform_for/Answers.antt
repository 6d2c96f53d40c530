use Rattle.std.proofs.Common.{[]}
use Rattle.std.proofs.lemmas.List.Elements.{All-cons, All-nil}
use Rattle.dwc_base.specs.TranslationNames.{HasSortedNames}
use Rattle.dwc_trials.proofs.translations.SmallModule.transform_for.Goals as goal

-- the one module's names are sorted
pub transform_of-requires-clause-sorted : goal.transform_of-requires-clause-sorted
transform_of-requires-clause-sorted c = rw c.from_ref-modules.ensures.value (All-cons HasSortedNames _ [] c.requires (All-nil HasSortedNames))
