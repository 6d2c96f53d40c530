use Rattle.std.proofs.Common.{ℕ, ◌∙◌, ap, false, get_or, sym}
use Rattle.dwc_native.specs.Parts.{targets}
use Rattle.dwc_expr.proofs.LandingLaws.{marks-stand, no-landings}
use Rattle.dwc_expr.proofs.compile.landings.landings.Goals as goal

pub returns-then-not-has_jump : goal.returns-then-not-has_jump
returns-then-not-has_jump c = no-landings c.args.size c.args.steps.now c.new.result.items (sym c.has_jump.ensures ∙ c.if-not-has_jump.true) c.new.ensures.items

pub returns : goal.returns
returns c = (
  sym c.in_ok-has_whole_jumps.ensures ∙ c.if-not-branch.false,
  λ (place : ℕ). ap (λ marks. get_or marks place false) c.in_ok-marked_targets.ensures ∙ marks-stand (targets c.args.steps.now) c.args.size c.requires.inside place,
)
