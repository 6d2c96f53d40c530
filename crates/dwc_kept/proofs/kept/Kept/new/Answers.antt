use Rattle.dwc_kept.proofs.OffsetLaws.{marked-order}
use Rattle.dwc_kept.proofs.kept.Kept.new.Goals as goal

pub invariant_of-result : goal.invariant_of-result
invariant_of-result c = marked-order c.entries.result.now _ c.in_ok-offsets.offsets.items c.entries.ensures.rising c.in_ok-offsets.ensures
