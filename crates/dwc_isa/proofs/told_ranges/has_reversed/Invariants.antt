use Rattle.std.proofs.Common.{◌≡◌, map, drop, nat_lt}
use Rattle.std.specs.List.{list_any}
use Rattle.dwc_isa.specs.ValueLabels.{range_view}
use Rattle.dwc_isa.proofs.told_ranges.has_reversed.Given as goal

-- the ranges that are left answer what all answer
abbrev pub invariant-loop-range : goal.invariant-loop-range
invariant-loop-range l = list_any (λ r. nat_lt r.end r.start) (map range_view (drop l.range-index l.ranges)) ≡ list_any (λ r. nat_lt r.end r.start) (map range_view l.ranges)
