use Rattle.std.proofs.Common.{◌≡◌, length}
use Rattle.dwc_tabs.specs.RangeEnds.{among_given}
use Rattle.dwc_tabs.specs.Locations.{locations_given}
use Rattle.dwc_tabs.proofs.locations.next_with_expression.Given as goal

-- the locations of the rest are those that were left
abbrev pub invariant-loop-given : goal.invariant-loop-given
invariant-loop-given l = among_given (locations_given l.unit.sections l.unit.header l.entries l.base) ≡ among_given (locations_given l.unit.sections l.unit.header l.fn.entries l.fn.base)

abbrev pub decreases-loop-given : goal.decreases-loop-given
decreases-loop-given l = length (locations_given l.unit.sections l.unit.header l.entries l.base).items
