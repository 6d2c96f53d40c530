use Rattle.std.proofs.Common.{◌≡◌, ◌++◌, ◌<◌, ◌^◌, [], All, map, length, Some}
use Rattle.dwc_native.specs.Placed.{ranges_in_function}
use Rattle.dwc_native.specs.Runs.{native_in_function}
use Rattle.dwc_expr.specs.LabelRanges.{bounds_of}
use Rattle.dwc_expr.proofs.ranges.native.push_native.Given as goal

-- the ranges so far, and those that are still to come, are all
abbrev pub invariant-loop-start : goal.invariant-loop-start
invariant-loop-start l = record {
  ranges : map bounds_of l.ranges.items ++ ranges_in_function (Some (l.function, l.found)) ≡ map bounds_of l.fn.ranges.items ++ ranges_in_function (native_in_function l.fn.addr_tr l.fn.start l.fn.end);
  nonempty : All (λ r. r.start < r.end) l.fn.ranges.items → All (λ r. r.start < r.end) l.ranges.items;
  low : All (λ r. r.end < 2 ^ 32) l.fn.ranges.items → All (λ r. r.end < 2 ^ 32) l.ranges.items;
  places : All (λ r. r.label_location.entries ≡ []) l.fn.ranges.items → All (λ r. r.label_location.entries ≡ []) l.ranges.items;
}

abbrev pub decreases-loop-start : goal.decreases-loop-start
decreases-loop-start l = length l.found
