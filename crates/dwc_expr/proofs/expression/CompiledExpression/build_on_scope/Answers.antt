use Rattle.std.proofs.Common.{◌∙◌, Bor, List, ap, map, option_map, subst, sym}
use Rattle.dwc_native.specs.BuiltExpressions.{Surroundings}
use Rattle.dwc_native.specs.Parts.{CompiledParts}
use Rattle.dwc_isa.specs.Registers.{Registers}
use Rattle.dwc_expr.specs.declared.frame.FunctionFrameInfo.{FunctionFrameInfo}
use Rattle.dwc_expr.specs.declared.part.CompiledExpressionPart.{CompiledExpressionPart}
use Rattle.dwc_expr.specs.Builds.{surroundings}
use Rattle.dwc_expr.specs.PartViews.{part_view}
use Rattle.dwc_expr.specs.WholeParts.{IsWhole, JumpsLand}
use Rattle.dwc_expr.proofs.BuildLaws.{built-of-parts}
use Rattle.dwc_expr.proofs.Meaning.PadLaws.{whole-land}
use Rattle.dwc_expr.proofs.expression.CompiledExpression.build_on_scope.Goals as goal

pub returns-in-None-clause-built : goal.returns-in-None-clause-built
returns-in-None-clause-built g c =
    let registers : Registers = (goal.TargetIsa-dyn g c.args.isa.now).dwarf_registers c.args.isa.now.1 in
    let s : Surroundings = surroundings c.args.addr_tr.now (option_map (λ (f : Bor FunctionFrameInfo). f.now) c.args.frame_info) registers in
    let wanted = c.self.inside.need_deref in
    let same = ap {B = CompiledParts} (λ parts. record { parts = map part_view parts; need_deref = wanted }) c.as_slice-parts.ensures.value ∙ c.self.view_is in
    built-of-parts s c.args.scope.now (map part_view c.as_slice-parts.result.now) wanted c.args.self.now c.build_parts.result same c.in-None.ensures c.if-is_empty.ensures c.build_parts.ensures

pub returns-in-None-clause-whole : goal.returns-in-None-clause-whole
returns-in-None-clause-whole g c = subst (λ (x : CompiledParts). IsWhole x) c.self.view_is c.self.invariant.1

pub returns-then-is_empty-clause-whole : goal.returns-then-is_empty-clause-whole
returns-then-is_empty-clause-whole g c = subst (λ (x : CompiledParts). IsWhole x) c.self.view_is c.self.invariant.1

pub build_parts-requires-clause-lands : goal.build_parts-requires-clause-lands
build_parts-requires-clause-lands g c =
    let x : CompiledParts = record { parts = map part_view c.self.inside.parts.items; need_deref = c.self.inside.need_deref } in
    subst (λ (ps : List CompiledExpressionPart). JumpsLand (map part_view ps)) (sym c.as_slice-parts.ensures.value) (whole-land x c.self.invariant.1)
