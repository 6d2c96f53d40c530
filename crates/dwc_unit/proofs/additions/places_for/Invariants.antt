use Rattle.std.proofs.Common.{◌≡◌, length}
use Rattle.dwc_unit.proofs.additions.places_for.Given as goal

-- there is one for each that was counted
abbrev pub invariant-loop : goal.invariant-loop
invariant-loop l = length l.list.items ≡ l.counter
