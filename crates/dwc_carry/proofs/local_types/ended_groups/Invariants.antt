use Rattle.dwc_carry.proofs.GroupLaws.{Ended}
use Rattle.dwc_carry.proofs.local_types.ended_groups.Given as goal

abbrev pub invariant-loop-group : goal.invariant-loop-group
invariant-loop-group l = Ended l.groups l.group-index l.end l.ended.items
