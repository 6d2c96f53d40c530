use Rattle.dwc_kept.proofs.KeptOffsets.{offsets-are-kept}
use Rattle.dwc_kept.proofs.laws.offsets_are_kept.Goals as goal

pub returns : goal.returns
returns c = offsets-are-kept
