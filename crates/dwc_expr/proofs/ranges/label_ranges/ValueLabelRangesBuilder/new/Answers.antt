use Rattle.std.proofs.Common.{◌∙◌, [], map, sym, ap, None}
use Rattle.dwc_native.specs.LabelRanges.{label_ranges}
use Rattle.dwc_expr.specs.CodeRanges.{code_range_view}
use Rattle.dwc_expr.specs.LabelRanges.{bounds_of}
use Rattle.dwc_expr.proofs.GatherLaws.{begins-given, given-labels}
use Rattle.dwc_expr.proofs.ranges.label_ranges.ValueLabelRangesBuilder.new.Goals as goal

pub invariant_of-result : goal.invariant_of-result
invariant_of-result g c =
    let code = c.in_ok-code.ensures ∙ ap (map bounds_of) c.deref.ensures.value in
    let joined = c.in_ok-ranges.ensures in
    given-labels _ _ _ _ _ _ _ c.new.ensures.items
    (begins-given _ c.has_interval-has_scope.result (map code_range_view c.in_ok-code.code.items) c.in_ok-ranges.ranges.items (joined.joined ∙ ap (label_ranges None []) (sym code)) joined.places (joined.low c.in_ok-native.ensures.low))
