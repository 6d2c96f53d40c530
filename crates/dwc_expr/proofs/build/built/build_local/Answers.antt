use Rattle.std.proofs.Common.{◌∙◌, Bor, option_map, subst, sym}
use Rattle.dwc_native.specs.BuiltExpressions.{Surroundings, built_on_ranges}
use Rattle.dwc_isa.specs.Registers.{Registers}
use Rattle.dwc_expr.specs.declared.frame.FunctionFrameInfo.{FunctionFrameInfo}
use Rattle.dwc_expr.specs.Builds.{Builds, surroundings}
use Rattle.dwc_expr.proofs.build.built.build_local.Goals as goal

pub returns-in-Some : goal.returns-in-Some
returns-in-Some g c = λ x is.
    let registers : Registers = (goal.TargetIsa-dyn g c.args.isa.now).dwarf_registers c.args.isa.now.1 in
    let s : Surroundings = surroundings c.args.addr_tr.now (option_map (λ (f : Bor FunctionFrameInfo). f.now) c.args.frame_info) registers in
    subst (λ rs. Builds (built_on_ranges s rs x) c.build_alone.result) (sym c.in-Some.ensures.range) (c.build_alone.ensures c.args.addr_tr.now x (is ∙ c.requires.part))
