use Rattle.std.proofs.Common.{◌≡◌, ◌++◌}
use Rattle.dwc_native.specs.Runs.{native_in_function}
use Rattle.dwc_addr.specs.Translations.{with_lengths}
use Rattle.dwc_extents.proofs.ranges.push_translated.Given as goal

-- what was pushed, with what is left, is the whole
abbrev pub invariant-loop-range : goal.invariant-loop-range
invariant-loop-range l = l.ranges.items ++ l.range-iterator ≡ l.fn.ranges.items ++ with_lengths (native_in_function l.transform l.begin l.end)
