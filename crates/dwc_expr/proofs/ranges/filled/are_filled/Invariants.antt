use Rattle.std.proofs.Common.{◌≡◌, ◌≤◌, length, map, drop}
use Rattle.dwc_isa.specs.ValueLabels.{range_view}
use Rattle.dwc_expr.specs.LabelRanges.{bounds_of}
use Rattle.dwc_expr.specs.OwnPlaces.{are_filled}
use Rattle.dwc_expr.specs.PlacedParts.{AllPassed}
use Rattle.dwc_expr.proofs.ranges.filled.are_filled.Given as goal

-- the ranges that are left answer what all answer
abbrev pub invariant-loop-i : goal.invariant-loop-i
invariant-loop-i l = record {
  filled : are_filled l.own (map range_view l.pieces) (drop l.i (map bounds_of l.ranges)) ≡ are_filled l.own (map range_view l.pieces) (map bounds_of l.ranges);
  inside : l.next ≤ length l.pieces;
  passed : AllPassed l.own (map range_view l.pieces) (map bounds_of l.ranges) l.i l.next;
}
