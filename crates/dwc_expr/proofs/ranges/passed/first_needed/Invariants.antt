use Rattle.std.proofs.Common.{map}
use Rattle.dwc_expr.specs.LabelRanges.{bounds_of}
use Rattle.dwc_expr.proofs.PassedLaws.{NoneOwn}
use Rattle.dwc_expr.proofs.ranges.passed.first_needed.Given as goal

abbrev pub invariant-loop-i : goal.invariant-loop-i
invariant-loop-i l = NoneOwn l.own (map bounds_of l.ranges) l.i
