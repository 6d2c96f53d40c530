use Rattle.std.proofs.Common.{◌≤◌, ◌<◌, length}
use Rattle.dwc_unit.proofs.FileOrderLaws.{LinkedFrom}
use Rattle.dwc_unit.proofs.file_order.links_of.Given as goal

-- the entries from a place on are linked
abbrev pub invariant-loop-place : goal.invariant-loop-place
invariant-loop-place l = record {
  some : 0 < l.place;
  within : l.place ≤ length l.additions;
  linked : LinkedFrom l.additions l.place l.first_children.items l.next_siblings.items;
}

abbrev pub decreases-loop-place : goal.decreases-loop-place
decreases-loop-place l = l.place
