use Rattle.std.proofs.Common.{map, take}
use Rattle.dwc_expr.specs.JoinedScopes.{AreApart}
use Rattle.dwc_expr.specs.LabelRanges.{bounds_of}
use Rattle.dwc_expr.proofs.ranges.scope.are_apart.Given as goal

-- the ranges so far are apart
abbrev pub invariant-loop-i : goal.invariant-loop-i
invariant-loop-i l = AreApart (take l.i (map bounds_of l.ranges))
