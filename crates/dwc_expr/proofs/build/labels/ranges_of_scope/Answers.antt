use Rattle.std.proofs.Common.{[], map, subst}
use Rattle.dwc_native.specs.Placed.{scope_ranges}
use Rattle.dwc_expr.specs.LabelRanges.{bounds_of, GivesRanges}
use Rattle.dwc_expr.proofs.GatherLaws.{begins-given}
use Rattle.dwc_expr.proofs.build.labels.ranges_of_scope.Goals as goal

pub returns-clause-given : goal.returns-clause-given
returns-clause-given c = λ frame.
    let native = c.in_ok-native.native.items in
    let ranges = c.in_ok-ranges.ranges.items in
    let has = c.has_interval.result in
    let joined = c.in_ok-ranges.ensures in
    subst (λ some. GivesRanges (record { frame = frame; has_scope = some; scope = scope_ranges c.args.addr_tr.now c.args.scope.now; labels = [] }) ranges has) c.has_interval.ensures
    (subst (λ scope. GivesRanges (record { frame = frame; has_scope = has; scope = scope; labels = [] }) ranges has) c.in_ok-native.ensures.ranges
    (begins-given frame has (map bounds_of native) ranges joined.joined joined.places (joined.low c.in_ok-native.ensures.low)))
