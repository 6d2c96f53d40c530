use Rattle.std.proofs.Common.{◌≡◌, ◌++◌, ◌<◌, length, map}
use Rattle.std.specs.List.{All}
use Rattle.dwc_unit.specs.GivenUnits.{in_file_order}
use Rattle.dwc_unit.specs.FileOrders.{AreLinked, looked_up}
use Rattle.dwc_unit.proofs.FileOrderLaws.{IsPending, emitted}
use Rattle.dwc_unit.proofs.file_order.file_order.Given as goal

-- what is there, with what the stack stands for, is the whole order
abbrev pub invariant-loop-place : goal.invariant-loop-place
invariant-loop-place l = record {
  linked : AreLinked l.additions l.links.first_children.items l.links.next_siblings.items;
  order : map (looked_up l.additions) l.order.items ++ emitted l.additions l.pending.items ≡ in_file_order l.additions;
  known : All (λ f. f.index < length l.additions) l.order.items;
  pending : All (IsPending l.additions) l.pending.items;
}

abbrev pub decreases-loop-place : goal.decreases-loop-place
decreases-loop-place l = length (emitted l.additions l.pending.items)
