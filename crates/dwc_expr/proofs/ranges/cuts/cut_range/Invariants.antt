use Rattle.std.proofs.Common.{◌≡◌, ℕ, ◌≤◌, map, drop, true}
use Rattle.std.specs.List.{filter_map}
use Rattle.dwc_native.specs.Placed.{is_number}
use Rattle.dwc_isa.specs.ValueLabels.{range_view}
use Rattle.dwc_expr.specs.LabelRanges.{bounds_of}
use Rattle.dwc_expr.specs.NarrowedRanges.{IsMadeBy}
use Rattle.dwc_expr.specs.PlacedParts.{cut_by, EndBy}
use Rattle.dwc_expr.proofs.MadeLaws.{Leads}
use Rattle.dwc_expr.proofs.ranges.cuts.cut_range.Given as goal

-- what is put for the pieces that are left makes what is put for all; the pieces so far end with the range
abbrev pub invariant-loop-place : goal.invariant-loop-place
invariant-loop-place l = record {
  own : is_number l.fn.own l.range.func_index ≡ true;
  cut : (index : ℕ) → Leads (IsMadeBy l.label.0 l.range) (filter_map (cut_by index (bounds_of l.range)) (drop l.place (map range_view l.pieces))) (filter_map (cut_by index (bounds_of l.range)) (drop l.first (map range_view l.pieces))) l.made.items l.fn.made.items;
  passed : (byte : ℕ) → l.range.end ≤ byte → EndBy byte l.first (map range_view l.pieces) → EndBy byte l.place (map range_view l.pieces);
}
