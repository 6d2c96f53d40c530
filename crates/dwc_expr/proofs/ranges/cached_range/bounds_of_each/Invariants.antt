use Rattle.std.proofs.Common.{◌≡◌, map, take}
use Rattle.dwc_expr.specs.CodeRanges.{code_range_view}
use Rattle.dwc_expr.specs.LabelRanges.{bounds_of}
use Rattle.dwc_expr.proofs.ranges.cached_range.bounds_of_each.Given as goal

-- the bounds so far
abbrev pub invariant-loop-i : goal.invariant-loop-i
invariant-loop-i l = map code_range_view l.out.items ≡ map bounds_of (take l.i l.ranges)
