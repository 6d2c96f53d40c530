use Rattle.std.proofs.Common.{◌≤◌, [], length, map, drop}
use Rattle.dwc_isa.specs.ValueLabels.{range_view}
use Rattle.dwc_expr.specs.LabelRanges.{bounds_of}
use Rattle.dwc_expr.specs.NarrowedRanges.{IsMadeIn}
use Rattle.dwc_expr.specs.PlacedParts.{cuts_from, AllPassed}
use Rattle.dwc_expr.proofs.MadeLaws.{Leads}
use Rattle.dwc_expr.proofs.ranges.cuts.cut_ranges.Given as goal

-- what is put for the ranges that are left makes what is put for all
abbrev pub invariant-loop-i : goal.invariant-loop-i
invariant-loop-i l = record {
  cut : Leads (IsMadeIn l.label.0 l.ranges) (cuts_from l.own (map range_view l.pieces) l.i (drop l.i (map bounds_of l.ranges))) (cuts_from l.own (map range_view l.pieces) 0 (map bounds_of l.ranges)) l.made.items [];
  inside : l.next ≤ length l.pieces;
  passed : AllPassed l.own (map range_view l.pieces) (map bounds_of l.ranges) l.i l.next;
}
