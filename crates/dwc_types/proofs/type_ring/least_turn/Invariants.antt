use Rattle.std.proofs.Common.{◌≤◌, ◌+◌, ◌-◌, length}
use Rattle.dwc_types.specs.TypeRings.{IsTurn}
use Rattle.dwc_types.proofs.type_ring.least_turn.Given as goal

-- what is taken for the least turn is one
abbrev pub invariant-loop-prime : goal.invariant-loop-prime
invariant-loop-prime l = record {
  turn : IsTurn l.turn l.tags;
  prime : 2 ≤ l.prime;
  rest : l.rest ≤ length l.tags;
}

abbrev pub decreases-loop-prime : goal.decreases-loop-prime
decreases-loop-prime l = l.rest + 1 - l.prime
