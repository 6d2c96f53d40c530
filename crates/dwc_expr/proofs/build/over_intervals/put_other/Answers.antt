use Rattle.std.proofs.Common.{◌∷◌, [], Bor, Err, option_map, refl, subst, sym}
use Rattle.std.proofs.lemmas.Result.{err_from_is_err_and}
use Rattle.dwc_native.specs.BuiltExpressions.{Surroundings}
use Rattle.dwc_native.specs.Parts.{compiled}
use Rattle.dwc_isa.specs.Registers.{Registers}
use Rattle.dwc_expr.specs.declared.error.ExprError.TheVariants.{OutOfMemory}
use Rattle.dwc_expr.specs.declared.frame.FunctionFrameInfo.{FunctionFrameInfo}
use Rattle.dwc_expr.specs.Builds.{surroundings}
use Rattle.dwc_expr.specs.OverIntervals.{Puts, constant}
use Rattle.dwc_expr.proofs.OverIntervalLaws.{parts-put, parts-refused}
use Rattle.dwc_expr.proofs.build.over_intervals.put_other.Goals as goal

pub returns-then-is_bit-clause-puts : goal.returns-then-is_bit-clause-puts
returns-then-is_bit-clause-puts g c =
    let registers : Registers = (goal.TargetIsa-dyn g c.args.isa.now).dwarf_registers c.args.isa.now.1 in
    let s : Surroundings = surroundings c.args.addr_tr.now (option_map (λ (x : Bor FunctionFrameInfo). x.now) c.args.frame_info) registers in
    let base = option_map (λ x. x.now) c.args.frame_base in
    parts-put s (c.args.interval ∷ []) c.args.locations.now.items (compiled base c.args.bytes.now) c.put_constant.new.locations.items (constant c.args.bytes.now)
    (c.is_bit.ensures c.if-is_bit.true base c.requires.free) (c.in_ok-put_constant.ensures.ok s.frame registers)

pub returns-in_err-put_constant-clause-puts : goal.returns-in_err-put_constant-clause-puts
returns-in_err-put_constant-clause-puts g c =
    let registers : Registers = (goal.TargetIsa-dyn g c.args.isa.now).dwarf_registers c.args.isa.now.1 in
    let s : Surroundings = surroundings c.args.addr_tr.now (option_map (λ (x : Bor FunctionFrameInfo). x.now) c.args.frame_info) registers in
    let base = option_map (λ x. x.now) c.args.frame_base in
    let old = c.args.locations.now.items in
    let new = c.put_constant.new.locations.items in
    let p = err_from_is_err_and c.from_residual.result c.from_residual.ensures.1 in
    rw (p.1, p.2)
    (subst (λ e. Puts s (c.args.interval ∷ []) old new (compiled base c.args.bytes.now) (Err e)) (sym c.in_err-put_constant.ensures.memory)
    (parts-refused s (c.args.interval ∷ []) old (compiled base c.args.bytes.now) new (constant c.args.bytes.now) (c.is_bit.ensures c.if-is_bit.true base c.requires.free) OutOfMemory refl))
