use Rattle.std.proofs.Common.{◌≡◌, ◌++◌, pos}
use Rattle.dwc_base.specs.NumberBytes.{sleb_bytes}
use Rattle.dwc_unit.proofs.expressions.Expression.push_sleb_from_0.Given as goal

-- what stands in the buffer, and the number that is left
abbrev pub invariant-loop-rest : goal.invariant-loop-rest
invariant-loop-rest l = l.self ++ sleb_bytes (pos l.rest) ≡ l.initial.self ++ sleb_bytes (pos l.initial.rest)

abbrev pub decreases-loop-rest : goal.decreases-loop-rest
decreases-loop-rest l = l.rest
