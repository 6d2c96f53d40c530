use Rattle.std.proofs.Common.{◌∙◌}
use Rattle.dwc_expr.proofs.EmitLaws.{values-more}
use Rattle.dwc_expr.proofs.compile.emit.push_values.Goals as goal

pub loop-part-preserved : goal.loop-part-preserved
loop-part-preserved c =
    values-more c.loop-part.parts c.push_value.new.parts c.args.values.now c.loop-part.part-index c.part-item.result c.loop-part-test.true c.part-item.is c.in_ok-push_value.ensures ∙ c.loop-part.invariant
