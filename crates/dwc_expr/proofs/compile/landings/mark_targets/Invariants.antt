use Rattle.std.proofs.Common.{◌≡◌, drop}
use Rattle.dwc_native.specs.Parts.{targets}
use Rattle.dwc_expr.specs.Landings.{marked_too}
use Rattle.dwc_expr.proofs.compile.landings.mark_targets.Given as goal

-- the targets that are left lead from the marks so far to those of all
abbrev pub invariant-loop-step : goal.invariant-loop-step
invariant-loop-step l = marked_too (targets (drop l.step-index l.steps)) l.marks ≡ marked_too (targets l.steps) l.fn.marks
