use Rattle.std.proofs.Common.{◌≡◌, drop, is_some}
use Rattle.std.specs.List.{list_any}
use Rattle.dwc_native.specs.Parts.{jump_target}
use Rattle.dwc_expr.proofs.compile.landings.has_jump.Given as goal

-- the operations that are left decide
abbrev pub invariant-loop-step : goal.invariant-loop-step
invariant-loop-step l = list_any (λ o. is_some (jump_target o)) (drop l.step-index l.steps) ≡ list_any (λ o. is_some (jump_target o)) l.steps
