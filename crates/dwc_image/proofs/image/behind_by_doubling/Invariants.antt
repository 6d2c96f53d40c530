use Rattle.std.proofs.Common.{◌+◌, ◌-◌, ◌≤◌}
use Rattle.dwc_image.proofs.RunLaws.{AreBelow}
use Rattle.dwc_image.proofs.image.behind_by_doubling.Given as goal

-- those so far are below the limit
abbrev pub invariant-loop-step : goal.invariant-loop-step
invariant-loop-step l = (l.from ≤ l.at) × (l.at ≤ l.end) × AreBelow (λ s. s.wasm) l.sources l.from (l.start + l.offset) l.at

abbrev pub decreases-loop-step : goal.decreases-loop-step
decreases-loop-step l = l.end - l.at
