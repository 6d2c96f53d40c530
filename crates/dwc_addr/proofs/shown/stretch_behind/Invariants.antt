use Rattle.std.proofs.Common.{◌≤◌, ◌-◌, length}
use Rattle.dwc_addr.specs.Stretches.{AreAlike}
use Rattle.dwc_addr.proofs.shown.stretch_behind.Given as goal

-- those that were passed are alike, and are no more than there are
abbrev pub invariant-loop-number : goal.invariant-loop-number
invariant-loop-number l =
    (l.from ≤ l.number)
    × (l.from ≤ length l.function.stretches.items → l.number ≤ length l.function.stretches.items)
    × AreAlike l.function.stretches.items l.start l.end l.passes_inside l.from l.number

abbrev pub decreases-loop-number : goal.decreases-loop-number
decreases-loop-number l = length l.function.stretches.items - l.number
