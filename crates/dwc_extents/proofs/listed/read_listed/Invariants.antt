use Rattle.std.proofs.Common.{◌≡◌, ◌++◌, length, map}
use Rattle.std.specs.List.{filter_map}
use Rattle.dwc_rules.specs.LocationRules.{listed}
use Rattle.dwc_extents.specs.LocationListValues.{listed_view}
use Rattle.dwc_extents.proofs.listed.read_listed.Given as goal

-- what was read, with what is left, is the whole
abbrev pub invariant-loop-expressions : goal.invariant-loop-expressions
invariant-loop-expressions l = record {
  items : map listed_view l.expressions.items ++ filter_map listed l.list.items ≡ filter_map listed l.fn.list.items;
  fault : l.list.fault ≡ l.fn.list.fault;
}

abbrev pub decreases-loop-expressions : goal.decreases-loop-expressions
decreases-loop-expressions l = length l.list.items
