use Rattle.std.proofs.Common.{◌∙◌, Bor, ap, map, option_map}
use Rattle.dwc_native.specs.BuiltExpressions.{Surroundings}
use Rattle.dwc_native.specs.Parts.{CompiledParts}
use Rattle.dwc_isa.specs.Registers.{Registers}
use Rattle.dwc_expr.specs.declared.frame.FunctionFrameInfo.{FunctionFrameInfo}
use Rattle.dwc_expr.specs.Builds.{surroundings}
use Rattle.dwc_expr.specs.PartViews.{part_view}
use Rattle.dwc_expr.proofs.BuildLaws.{varies-of-parts}
use Rattle.dwc_expr.proofs.expression.CompiledExpression.varies_over.Goals as goal

pub returns-in-None : goal.returns-in-None
returns-in-None g c = λ varies.
    let registers : Registers = (goal.TargetIsa-dyn g c.args.isa.now).dwarf_registers c.args.isa.now.1 in
    let s : Surroundings = surroundings c.args.addr_tr.now (option_map (λ (f : Bor FunctionFrameInfo). f.now) c.args.frame_info) registers in
    let wanted = c.self.inside.need_deref in
    let same = ap {B = CompiledParts} (λ parts. record { parts = map part_view parts; need_deref = wanted }) c.as_slice-parts.ensures.value ∙ c.self.view_is in
    varies-of-parts s c.args.scope.now (map part_view c.as_slice-parts.result.now) wanted c.args.self.now same c.in-None.ensures c.if-is_empty.ensures (c.parts_vary.ensures varies)
