use Rattle.std.proofs.Common.{◌≡◌, drop, map}
use Rattle.dwc_expr.specs.Landings.{marked_too}
use Rattle.dwc_expr.proofs.compile.landings.mark_starts.Given as goal

-- the places that are left lead from the marks so far to those of all
abbrev pub invariant-loop-step : goal.invariant-loop-step
invariant-loop-step l = marked_too (map (λ o. o.place) (drop l.step-index l.steps)) l.marks ≡ marked_too (map (λ o. o.place) l.steps) l.fn.marks
