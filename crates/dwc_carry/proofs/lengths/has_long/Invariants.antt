use Rattle.std.proofs.Common.{◌≡◌, drop, map}
use Rattle.std.specs.List.{list_any}
use Rattle.dwc_native.specs.Addends.{is_long}
use Rattle.dwc_addr.specs.Transforms.{function_view}
use Rattle.dwc_carry.proofs.lengths.has_long.Given as goal

-- one of the functions that are left is too long where one of all is
abbrev pub invariant-loop-function : goal.invariant-loop-function
invariant-loop-function l = list_any is_long (map function_view (drop l.function-index l.functions)) ≡ list_any is_long (map function_view l.fn.functions)
