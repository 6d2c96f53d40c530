use Rattle.std.proofs.Common.{◌≡◌, drop, map}
use Rattle.dwc_rules.specs.LocationAttributes.{are_equal_to as are_equal}
use Rattle.dwc_expr.specs.Builds.{location_view}
use Rattle.dwc_extents.proofs.location_value.are_equal_to.Given as goal

-- those that are left are equal where all are
abbrev pub invariant-loop-expression : goal.invariant-loop-expression
invariant-loop-expression l = are_equal l.bytes (map location_view (drop l.expression-index l.expressions)) ≡ are_equal l.bytes (map location_view l.expressions)
