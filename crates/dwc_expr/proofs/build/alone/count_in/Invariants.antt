use Rattle.std.proofs.Common.{◌≤◌}
use Rattle.dwc_expr.proofs.build.alone.count_in.Given as goal

abbrev pub invariant-loop-place : goal.invariant-loop-place
invariant-loop-place l = l.count ≤ l.place
