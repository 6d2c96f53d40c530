use Rattle.std.proofs.Common.{◌∙◌, Bor, option_map, subst, sym}
use Rattle.dwc_native.specs.BuiltExpressions.{Surroundings, built_on_ranges}
use Rattle.dwc_isa.specs.Registers.{Registers}
use Rattle.dwc_expr.specs.declared.frame.FunctionFrameInfo.{FunctionFrameInfo}
use Rattle.dwc_expr.specs.Builds.{surroundings}
use Rattle.dwc_expr.specs.Varying.{Varies}
use Rattle.dwc_expr.proofs.build.varying.parts_vary.Goals as goal

pub returns-in-Some-one_range : goal.returns-in-Some-one_range
returns-in-Some-one_range g c = λ varies x is.
    let registers : Registers = (goal.TargetIsa-dyn g c.args.isa.now).dwarf_registers c.args.isa.now.1 in
    let s : Surroundings = surroundings c.args.addr_tr.now (option_map (λ (f : Bor FunctionFrameInfo). f.now) c.args.frame_info) registers in
    subst (λ rs. Varies (built_on_ranges s rs x)) (sym c.in-Some-one_range.ensures.range) (c.local_varies.ensures varies c.args.addr_tr.now x (is ∙ c.in-Some.ensures.part))
