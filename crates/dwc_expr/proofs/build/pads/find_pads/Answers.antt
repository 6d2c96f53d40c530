use Rattle.std.proofs.Common.{subst, sym}
use Rattle.dwc_expr.specs.declared.part.CompiledExpressionPart.{CompiledExpressionPart}
use Rattle.dwc_expr.specs.LabelRanges.{IsPlacedOn}
use Rattle.dwc_expr.specs.PartViews.{part_view}
use Rattle.dwc_expr.proofs.KnownLaws.{parts-placed}
use Rattle.dwc_expr.proofs.build.pads.find_pads.Goals as goal

pub put_part-requires : goal.put_part-requires
put_part-requires g c =
    let range = c.args.setting.now.range.now in
    subst (λ (x : CompiledExpressionPart). IsPlacedOn range (part_view x)) (sym c.part-item.is) (parts-placed range c.args.parts.now c.requires c.loop-part.part-index c.part-item.result c.loop-part-test.true)
