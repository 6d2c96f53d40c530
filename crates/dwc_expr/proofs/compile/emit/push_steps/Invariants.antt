use Rattle.std.proofs.Common.{◌≡◌, ◌++◌, drop, option_map}
use Rattle.dwc_native.specs.Parts.{joined}
use Rattle.dwc_expr.specs.Landings.{parts_behind_marks}
use Rattle.dwc_expr.proofs.compile.emit.push_steps.Given as goal

-- what was put, with what is left behind it, joins as the whole does
abbrev pub invariant-loop-step : goal.invariant-loop-step
invariant-loop-step l =
    joined (l.parts ++ parts_behind_marks (option_map (λ x. x.now) l.frame_base) l.landings (drop l.step-index l.steps)) ≡ joined (l.fn.parts ++ parts_behind_marks (option_map (λ x. x.now) l.frame_base) l.landings l.steps)
