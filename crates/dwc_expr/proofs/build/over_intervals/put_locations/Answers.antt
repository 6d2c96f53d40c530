use Rattle.std.proofs.Common.{◌∙◌, ◌∷◌, [], Bor, option_map, sym}
use Rattle.std.proofs.lemmas.Result.{err_from_is_err_and}
use Rattle.dwc_native.specs.BuiltExpressions.{Surroundings}
use Rattle.dwc_native.specs.Parts.{compiled, label_alone}
use Rattle.dwc_isa.specs.Registers.{Registers}
use Rattle.dwc_expr.specs.declared.frame.FunctionFrameInfo.{FunctionFrameInfo}
use Rattle.dwc_expr.specs.Builds.{surroundings}
use Rattle.dwc_expr.proofs.CompileLaws.{compiled-held}
use Rattle.dwc_expr.proofs.OverIntervalLaws.{none-put, parts-put, parts-refused}
use Rattle.dwc_expr.proofs.build.over_intervals.put_locations.Goals as goal

pub returns-then-is_on_stack-clause-puts : goal.returns-then-is_on_stack-clause-puts
returns-then-is_on_stack-clause-puts g c =
    let registers : Registers = (goal.TargetIsa-dyn g c.args.isa.now).dwarf_registers c.args.isa.now.1 in
    let s : Surroundings = surroundings c.args.addr_tr.now (option_map (λ (x : Bor FunctionFrameInfo). x.now) c.args.frame_info) registers in
    let base = option_map (λ x. x.now) c.args.frame_base in
    none-put s (c.args.interval ∷ []) c.args.locations.now.items (compiled base c.args.bytes.now) (c.is_on_stack.ensures c.if-is_on_stack.true base)

pub returns-then-holds_jump-clause-puts : goal.returns-then-holds_jump-clause-puts
returns-then-holds_jump-clause-puts g c =
    let registers : Registers = (goal.TargetIsa-dyn g c.args.isa.now).dwarf_registers c.args.isa.now.1 in
    let s : Surroundings = surroundings c.args.addr_tr.now (option_map (λ (x : Bor FunctionFrameInfo). x.now) c.args.frame_info) registers in
    let base = option_map (λ x. x.now) c.args.frame_base in
    none-put s (c.args.interval ∷ []) c.args.locations.now.items (compiled base c.args.bytes.now) (compiled-held base c.args.bytes.now (sym c.holds_jump.ensures.jump ∙ c.if-holds_jump.true))

pub returns-in_ok-put_label-in-Some-clause-puts : goal.returns-in_ok-put_label-in-Some-clause-puts
returns-in_ok-put_label-in-Some-clause-puts g c =
    let registers : Registers = (goal.TargetIsa-dyn g c.args.isa.now).dwarf_registers c.args.isa.now.1 in
    let s : Surroundings = surroundings c.args.addr_tr.now (option_map (λ (x : Bor FunctionFrameInfo). x.now) c.args.frame_info) registers in
    let base = option_map (λ x. x.now) c.args.frame_base in
    parts-put s (c.args.interval ∷ []) c.args.locations.now.items (compiled base c.args.bytes.now) c.put_label.new.locations.items (label_alone c.in-Some.label.0)
    (c.in-Some.ensures base (sym c.holds_jump.ensures.jump ∙ c.if-holds_jump.false)) c.in_ok-put_label-in-Some.ensures.puts

pub returns-in_err-put_label-in-Some-clause-puts : goal.returns-in_err-put_label-in-Some-clause-puts
returns-in_err-put_label-in-Some-clause-puts g c =
    let registers : Registers = (goal.TargetIsa-dyn g c.args.isa.now).dwarf_registers c.args.isa.now.1 in
    let s : Surroundings = surroundings c.args.addr_tr.now (option_map (λ (x : Bor FunctionFrameInfo). x.now) c.args.frame_info) registers in
    let base = option_map (λ x. x.now) c.args.frame_base in
    let p = err_from_is_err_and c.from_residual.result c.from_residual.ensures.1 in
    rw (p.1, p.2)
    (parts-refused s (c.args.interval ∷ []) c.args.locations.now.items (compiled base c.args.bytes.now) c.put_label.new.locations.items (label_alone c.in-Some.label.0)
    (c.in-Some.ensures base (sym c.holds_jump.ensures.jump ∙ c.if-holds_jump.false)) _ c.in_err-put_label-in-Some.ensures.puts)
