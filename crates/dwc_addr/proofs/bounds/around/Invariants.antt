use Rattle.std.proofs.Common.{ℕ, ◌<◌, ◌≤◌, get_or}
use Rattle.dwc_addr.specs.RunBounds.{no_bounds, Encloses}
use Rattle.dwc_addr.proofs.bounds.around.Given as goal

-- the bounds enclose those that were passed
abbrev pub invariant-loop-i : goal.invariant-loop-i
invariant-loop-i l = (k : ℕ) → l.first ≤ k → k < l.i → Encloses l.all (get_or l.bounds k no_bounds).begin (get_or l.bounds k no_bounds).end
