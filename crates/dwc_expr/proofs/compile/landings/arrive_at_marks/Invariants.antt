use Rattle.std.proofs.Common.{◌≡◌, drop, slice_index_or, false}
use Rattle.std.specs.List.{list_all}
use Rattle.dwc_native.specs.Parts.{targets}
use Rattle.dwc_expr.proofs.compile.landings.arrive_at_marks.Given as goal

-- the targets that are left decide
abbrev pub invariant-loop-step : goal.invariant-loop-step
invariant-loop-step l = list_all (λ place. slice_index_or l.marks place false) (targets (drop l.step-index l.steps)) ≡ list_all (λ place. slice_index_or l.marks place false) (targets l.steps)
