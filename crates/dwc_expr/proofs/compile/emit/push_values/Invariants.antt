use Rattle.std.proofs.Common.{◌≡◌, ◌++◌, drop, map}
use Rattle.dwc_native.specs.Parts.{as_value, joined}
use Rattle.dwc_expr.specs.PartViews.{part_view}
use Rattle.dwc_expr.proofs.compile.emit.push_values.Given as goal

-- what was put, with what is left behind it, joins as the whole does
abbrev pub invariant-loop-part : goal.invariant-loop-part
invariant-loop-part l = joined (l.parts ++ map as_value (map part_view (drop l.part-index l.values))) ≡ joined (l.fn.parts ++ map as_value (map part_view l.values))
