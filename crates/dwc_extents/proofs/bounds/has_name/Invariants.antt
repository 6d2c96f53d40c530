use Rattle.std.proofs.Common.{◌≡◌, ◌≤◌, drop, false, length, map}
use Rattle.dwc_rules.specs.RangeRefusals.{has_name}
use Rattle.dwc_read.specs.ValuesSeen.{attribute_view}
use Rattle.dwc_extents.proofs.bounds.has_name.Given as goal

-- none stands behind those that are left
abbrev pub invariant-loop-left : goal.invariant-loop-left
invariant-loop-left l = record {
  within : l.left ≤ length l.attributes;
  none : has_name l.name (map attribute_view (drop l.left l.attributes)) ≡ false;
}

abbrev pub decreases-loop-left : goal.decreases-loop-left
decreases-loop-left l = l.left
