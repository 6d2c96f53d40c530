use Rattle.std.proofs.Common.{Bor, option_map}
use Rattle.dwc_native.specs.BuiltExpressions.{Surroundings}
use Rattle.dwc_isa.specs.Registers.{Registers}
use Rattle.dwc_expr.specs.declared.frame.FunctionFrameInfo.{FunctionFrameInfo}
use Rattle.dwc_expr.specs.Builds.{surroundings}
use Rattle.dwc_expr.proofs.Meaning.Builds.{builds-mean}
use Rattle.dwc_expr.proofs.expression.CompiledExpression.build_with_locals.Goals as goal

pub returns-clause-means : goal.returns-clause-means
returns-clause-means g c =
    let registers : Registers = (goal.TargetIsa-dyn g c.args.isa.now).dwarf_registers c.args.isa.now.1 in
    let s : Surroundings = surroundings c.args.addr_tr.now (option_map (λ (f : Bor FunctionFrameInfo). f.now) c.args.frame_info) registers in
    builds-mean s c.args.scope.now c.args.self.now c.build_on_scope.result c.build_on_scope.ensures.whole c.build_on_scope.ensures.built
