use Rattle.std.proofs.Common.{◌≡◌, ◌++◌, ◌<◌, ◌^◌, [], All, map, drop}
use Rattle.dwc_native.specs.Placed.{scope_ranges}
use Rattle.dwc_expr.specs.LabelRanges.{bounds_of}
use Rattle.dwc_expr.proofs.ranges.native.native_ranges.Given as goal

-- the ranges so far, and those of the intervals that are left, are all
abbrev pub invariant-loop-start : goal.invariant-loop-start
invariant-loop-start l = record {
  ranges : map bounds_of l.ranges.items ++ scope_ranges l.addr_tr (drop l.start-index l.scope) ≡ scope_ranges l.addr_tr l.scope;
  nonempty : All (λ r. r.start < r.end) l.ranges.items;
  low : All (λ r. r.end < 2 ^ 32) l.ranges.items;
  places : All (λ r. r.label_location.entries ≡ []) l.ranges.items;
}
