use Rattle.std.proofs.Common.{◌≡◌, suc, ◌-◌, length}
use Rattle.dwc_addr.specs.Translations.{ranges_from}
use Rattle.dwc_addr.proofs.ranges.range_behind.Given as goal

-- the runs that are left have the ranges of all from the first one on
abbrev pub invariant-loop-place : goal.invariant-loop-place
invariant-loop-place l = ranges_from l.function l.start l.end l.place ≡ ranges_from l.function l.start l.end l.number

abbrev pub decreases-loop-place : goal.decreases-loop-place
decreases-loop-place l = suc (length l.function.later_runs.items) - l.place
