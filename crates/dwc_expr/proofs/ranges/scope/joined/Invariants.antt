use Rattle.std.proofs.Common.{map, take, drop}
use Rattle.dwc_expr.specs.CodeRanges.{code_range_view}
use Rattle.dwc_expr.proofs.ScopeLaws.{IsJoining}
use Rattle.dwc_expr.proofs.ranges.scope.joined.Given as goal

-- the ranges so far are joined, and those to come begin behind
abbrev pub invariant-loop-range : goal.invariant-loop-range
invariant-loop-range l = IsJoining (map code_range_view (take l.range-index l.ranges)) (map code_range_view (drop l.range-index l.ranges)) (map code_range_view l.out.items)
