use Rattle.std.proofs.Common.{◌≡◌, ◌++◌}
use Rattle.dwc_base.specs.NumberBytes.{uleb_bytes}
use Rattle.dwc_unit.proofs.expressions.Expression.push_uleb.Given as goal

-- what stands in the buffer, and the number that is left
abbrev pub invariant-loop-rest : goal.invariant-loop-rest
invariant-loop-rest l = l.self ++ uleb_bytes l.rest ≡ l.initial.self ++ uleb_bytes l.initial.rest

abbrev pub decreases-loop-rest : goal.decreases-loop-rest
decreases-loop-rest l = l.rest
