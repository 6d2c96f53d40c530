use Rattle.std.proofs.Common.{◌+◌, ◌≤◌, ◌<◌, length}
use Rattle.dwc_addr.specs.Stretches.{AreAlike}
use Rattle.dwc_addr.proofs.shown.alike_from.Given as goal

-- so many are alike
abbrev pub invariant-loop-level : goal.invariant-loop-level
invariant-loop-level l =
    (0 < l.alike)
    × (l.number + l.alike ≤ length l.function.stretches.items)
    × AreAlike l.function.stretches.items l.start l.end l.inside l.number (l.number + l.alike)
