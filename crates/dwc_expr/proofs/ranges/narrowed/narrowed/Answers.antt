use Rattle.std.proofs.Common.{◌∙◌, Bor, Option, map, option_map, refl, subst, sym}
use Rattle.dwc_isa.specs.ValueLabels.{range_view}
use Rattle.dwc_expr.specs.declared.frame.FunctionFrameInfo.{FunctionFrameInfo}
use Rattle.dwc_expr.specs.Frames.{ToldFrame, frame_of, told_frame}
use Rattle.dwc_expr.specs.NarrowedRanges.{Tells}
use Rattle.dwc_expr.specs.OwnPlaces.{own_ranges}
use Rattle.dwc_expr.proofs.AloneLaws.{tells-told}
use Rattle.dwc_expr.proofs.GatherLaws.{bad-range}
use Rattle.dwc_expr.proofs.ranges.narrowed.narrowed.Goals as goal

pub returns : goal.returns
returns c =
    let frame : Option ToldFrame = option_map (λ (f : Bor FunctionFrameInfo). told_frame f.now) c.args.frame in
    let label = c.args.label.0 in
    let own = c.own_function-own.result in
    let told = own_ranges frame label in
    let pieces = map range_view c.in_ok-pieces.pieces.now in
    let tells = tells-told frame label own told pieces c.own_function-own.ensures refl c.in_ok-pieces.ensures.flat.flat c.in_ok-pieces.ensures.flat.same in (
      bad-range frame label told refl ∙ c.in_ok-pieces.ensures.good,
      λ g its old. c.in_ok-narrowed_by.ensures g (subst (λ (f : Option ToldFrame). Tells (option_map frame_of f) label own pieces) (sym its) tells) old,
    )
