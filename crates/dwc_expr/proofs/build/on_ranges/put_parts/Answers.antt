use Rattle.std.proofs.Common.{rules, subst, sym}
use Rattle.std.proofs.lemmas.Result.{err_from_is_err_and}
use Rattle.dwc_native.specs.Built.{Setting}
use Rattle.dwc_expr.specs.declared.part.CompiledExpressionPart.{CompiledExpressionPart}
use Rattle.dwc_expr.specs.LabelRanges.{IsPlacedOn}
use Rattle.dwc_expr.specs.PartViews.{part_view}
use Rattle.dwc_expr.specs.PartsToBuild.{all_parts}
use Rattle.dwc_expr.specs.RangeSettings.{setting_on}
use Rattle.dwc_expr.proofs.KnownLaws.{parts-placed}
use Rattle.dwc_expr.proofs.PartWalk.{pad-there, too-far, walk-more}
use Rattle.dwc_expr.proofs.build.on_ranges.put_parts.Goals as goal

pub jump_distance-requires-clause-pad : goal.jump_distance-requires-clause-pad
jump_distance-requires-clause-pad g c =
    let s : Setting = setting_on c.args.setting.now ((goal.TargetIsa-dyn g c.args.isa.now).dwarf_registers c.args.isa.now.1) in
    let parts = c.args.parts.now in
    pad-there s (all_parts parts) c.args.pads.now parts.parts.now c.requires.pads c.loop-part.part-index c.part-item.result c.loop-part-test.true c.part-item.is

pub returns-in_err-distance : goal.returns-in_err-distance
returns-in_err-distance g c =
    let s : Setting = setting_on c.args.setting.now ((goal.TargetIsa-dyn g c.args.isa.now).dwarf_registers c.args.isa.now.1) in
    let parts = c.args.parts.now in
    let p = err_from_is_err_and c.from_residual.result c.from_residual.ensures.1 in
    rw (p.1, p.2)
    (too-far s (all_parts parts) c.args.pads.now parts.parts.now c.requires.pads c.loop-part.part-index c.part-item.result c.loop-part-test.true c.part-item.is c.loop-part.out c.len.result c.len.ensures.count
    c.in_err-distance.field-0.0 _ c.in_err-distance.ensures c.loop-part.invariant.fit)

pub put_part-requires : goal.put_part-requires
put_part-requires g c =
    let range = c.args.setting.now.range.now in
    subst (λ (x : CompiledExpressionPart). IsPlacedOn range (part_view x)) (sym c.part-item.is) (parts-placed range c.args.parts.now c.requires.places c.loop-part.part-index c.part-item.result c.loop-part-test.true)

pub loop-part-preserved : goal.loop-part-preserved
loop-part-preserved g c =
    let s : Setting = setting_on c.args.setting.now ((goal.TargetIsa-dyn g c.args.isa.now).dwarf_registers c.args.isa.now.1) in
    let parts = c.args.parts.now in
    let l = c.loop-part in
    let more =
    walk-more s (all_parts parts) c.args.pads.now parts.parts.now c.requires.pads l.part-index c.part-item.result c.loop-part-test.true c.part-item.is l.out c.len.result c.len.ensures.count
    c.put_part.new.out c.in_ok-distance.distance _ c.in_ok-distance.ensures (search rules) c.in_ok-put_part.ensures c.args.out.now l.invariant.bytes l.invariant.fit in
    record { bytes = more.0; fit = more.1 }
