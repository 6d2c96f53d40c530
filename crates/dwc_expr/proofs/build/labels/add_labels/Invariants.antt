use Rattle.std.proofs.Common.{◌++◌, drop, filter_map, map}
use Rattle.dwc_native.specs.Placed.{label_needed}
use Rattle.dwc_expr.specs.NeededLabels.{HaveSameFirsts, IsSetOf, numbers}
use Rattle.dwc_expr.specs.PartViews.{part_view}
use Rattle.dwc_expr.proofs.build.labels.add_labels.Given as goal

-- the set has the labels so far; and these, with those that the parts that are left need, have the firsts of all
abbrev pub invariant-loop-part : goal.invariant-loop-part
invariant-loop-part l = record {
  set : IsSetOf l.labels.items l.seen;
  labels : HaveSameFirsts (numbers l.labels.items ++ filter_map label_needed (map part_view (drop l.part-index l.parts))) (numbers l.fn.labels.items ++ filter_map label_needed (map part_view l.parts));
}
