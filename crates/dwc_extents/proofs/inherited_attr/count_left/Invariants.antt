use Rattle.dwc_extents.proofs.StackPlaces.{Counts}
use Rattle.dwc_extents.proofs.inherited_attr.count_left.Given as goal

abbrev pub invariant-loop-left : goal.invariant-loop-left
invariant-loop-left g l = Counts l.fn.depth l.fn.items l.left

abbrev pub decreases-loop-left : goal.decreases-loop-left
decreases-loop-left g l = l.left
