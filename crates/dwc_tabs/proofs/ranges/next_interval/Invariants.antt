use Rattle.std.proofs.Common.{◌≡◌, length}
use Rattle.dwc_tabs.specs.RangeEnds.{ranges_given, among_given}
use Rattle.dwc_tabs.proofs.ranges.next_interval.Given as goal

-- the intervals of the rest are those that were left
abbrev pub invariant-loop-given : goal.invariant-loop-given
invariant-loop-given l = among_given (ranges_given l.unit.sections l.unit.header l.entries l.base) ≡ among_given (ranges_given l.unit.sections l.unit.header l.fn.entries l.fn.base)

abbrev pub decreases-loop-given : goal.decreases-loop-given
decreases-loop-given l = length (ranges_given l.unit.sections l.unit.header l.entries l.base).items
