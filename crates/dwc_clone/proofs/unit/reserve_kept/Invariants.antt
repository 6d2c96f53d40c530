use Rattle.std.proofs.Common.{◌≡◌, ◌-◌}
use Rattle.dwc_clone.specs.OpenWrappers.{reserved_more}
use Rattle.dwc_clone.proofs.unit.reserve_kept.Given as goal

-- what is left to be reserved, behind what is, makes all
abbrev pub invariant-loop : goal.invariant-loop
invariant-loop l = reserved_more (l.count - l.counter) l.unit ≡ reserved_more (l.count - 1) l.fn.unit
