use Rattle.std.proofs.Common.{◌≡◌, [], All, map, take}
use Rattle.dwc_expr.specs.CodeRanges.{code_range_view}
use Rattle.dwc_expr.specs.LabelRanges.{bounds_of}
use Rattle.dwc_expr.proofs.ranges.cached_range.without_places.Given as goal

-- the ranges so far
abbrev pub invariant-loop-range : goal.invariant-loop-range
invariant-loop-range l = record {
  bounds : map bounds_of l.out.items ≡ map code_range_view (take l.range-index l.ranges);
  places : All (λ r. r.label_location.entries ≡ []) l.out.items;
}
