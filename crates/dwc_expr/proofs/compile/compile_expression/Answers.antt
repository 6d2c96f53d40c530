use Rattle.std.proofs.Common.{◌∙◌, option_map, sym}
use Rattle.dwc_expr.proofs.CompileLaws.{compiled-held}
use Rattle.dwc_expr.proofs.compile.compile_expression.Goals as goal

pub returns-then-holds_jump-clause-parts : goal.returns-then-holds_jump-clause-parts
returns-then-holds_jump-clause-parts c = compiled-held (option_map (λ x. x.now) c.args.frame_base) c.args.bytes.now (sym c.holds_jump.ensures.jump ∙ c.if-holds_jump.true)
