use Rattle.std.proofs.Common.{Bor, map, option_map, nat_lt, refl}
use Rattle.std.specs.List.{list_any}
use Rattle.dwc_native.specs.Compiled.{LabelRange}
use Rattle.dwc_isa.specs.ValueLabels.{range_view}
use Rattle.dwc_expr.specs.declared.frame.FunctionFrameInfo.{FunctionFrameInfo}
use Rattle.dwc_expr.specs.Frames.{frame_view, told_frame}
use Rattle.dwc_expr.specs.OwnPlaces.{own_ranges}
use Rattle.dwc_expr.proofs.AloneLaws.{good-own, tells-own}
use Rattle.dwc_expr.proofs.build.alone.build_alone.Goals as goal

pub returns : goal.returns
returns g c = λ functions x is.
    let f = c.args.frame_info in
    let label = c.args.local.label.0 in
    let told = own_ranges (option_map (λ (y : Bor FunctionFrameInfo). told_frame y.now) f) label in
    c.build_by.ensures functions (frame_view (option_map (λ (y : Bor FunctionFrameInfo). y.now) f)) x
    (tells-own f label c.own_function-own.result told (map range_view c.in_ok-pieces.pieces.now) c.own_function-own.ensures refl c.in_ok-pieces.ensures.flat.flat c.in_ok-pieces.ensures.flat.same)
    (good-own f label told (list_any (λ (r : LabelRange). nat_lt r.end r.start) told) refl refl c.in_ok-pieces.ensures.good) is
