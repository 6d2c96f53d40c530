use Rattle.std.proofs.Common.{◌+◌}
use Rattle.dwc_image.proofs.RunLaws.{AreBelow}
use Rattle.dwc_image.proofs.image.above_by_steps.Given as goal

-- those so far are below the limit
abbrev pub invariant-loop-at : goal.invariant-loop-at
invariant-loop-at l = AreBelow (λ r. r.offset) l.rows l.from (l.offset + 1) l.at
