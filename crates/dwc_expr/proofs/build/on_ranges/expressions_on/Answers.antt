use Rattle.std.proofs.Common.{◌∙◌, ◌<◌, ap, subst, sym}
use Rattle.dwc_base.specs.Listing.{first_of}
use Rattle.dwc_isa.specs.Registers.{Registers}
use Rattle.dwc_expr.specs.declared.ranges.cached_range.CachedValueLabelRange.{CachedValueLabelRange}
use Rattle.dwc_isa.specs.ToldModules.{memory_view}
use Rattle.dwc_expr.specs.Jumps.{unless_fit}
use Rattle.dwc_expr.specs.PartsToBuild.{all_parts}
use Rattle.dwc_expr.specs.RangeExpressions.{jumps_refused}
use Rattle.dwc_expr.proofs.ExpressionLaws.{expression-more}
use Rattle.dwc_expr.proofs.PlaceRefusals.{split-at}
use Rattle.dwc_expr.proofs.RefusalLaws.{first-behind}
use Rattle.dwc_expr.proofs.build.on_ranges.expressions_on.Goals as goal

pub loop-range-preserved : goal.loop-range-preserved
loop-range-preserved g c =
    let registers : Registers = (goal.TargetIsa-dyn g c.args.isa.now).dwarf_registers c.args.isa.now.1 in
    let memory = memory_view c.args.memory in
    let parts = all_parts c.args.parts.now in
    let ranges = c.args.ranges.now in
    let i = c.loop-range.range-index in
    let r = c.range-item.result in
    let some = subst (λ (x : CachedValueLabelRange). x.start < x.end) (sym c.range-item.is) (c.requires.low i r c.loop-range-test.true).some in
    record {
      expressions = expression-more parts registers memory ranges i r c.loop-range.expressions.items _ c.extent-begin.result c.in_ok-expression.expression _ c.loop-range-test.true c.range-item.is some c.extent-begin.ensures c.in_ok-expression.ensures.1 c.in_ok-push.ensures.items c.loop-range.invariant.expressions;
      refusals = first-behind _ _ _ (split-at (jumps_refused parts registers memory) ranges i r c.loop-range-test.true c.range-item.is ∙ c.loop-range.invariant.refusals) (ap (λ b. first_of (unless_fit b)) c.in_ok-expression.ensures.0);
    }
