use Rattle.std.proofs.Common.{◌≡◌, ◌++◌, map}
use Rattle.dwc_native.specs.Runs.{native_in_function}
use Rattle.dwc_addr.specs.Translations.{with_lengths}
use Rattle.dwc_expr.specs.Builds.{location_view}
use Rattle.dwc_expr.specs.Copies.{copy_at}
use Rattle.dwc_expr.specs.OverIntervals.{IsFront}
use Rattle.dwc_expr.proofs.build.copies.push_copies.Given as goal

-- what was pushed, with what is left, is the whole, and what stood there is in front
abbrev pub invariant-loop-begin : goal.invariant-loop-begin
invariant-loop-begin l = record {
  pushed : map location_view l.expressions.items ++ map (copy_at l.code) l.begin-iterator ≡ map location_view l.fn.expressions.items ++ map (copy_at l.code) (with_lengths (native_in_function l.addr_tr l.start l.end));
  front : IsFront l.fn.expressions.items l.expressions.items;
}
