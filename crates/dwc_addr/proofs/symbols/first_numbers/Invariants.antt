use Rattle.std.proofs.Common.{◌≡◌, ◌+◌, ◌++◌, drop}
use Rattle.dwc_addr.specs.Numbers.{function_count, numbers_from}
use Rattle.dwc_addr.specs.Compilations.{lists}
use Rattle.dwc_addr.proofs.symbols.first_numbers.Given as goal

-- the numbers so far, and those of the modules that are left, are all; and so with the functions that are counted
abbrev pub invariant-loop-functions : goal.invariant-loop-functions
invariant-loop-functions l =
    (l.numbers.items ++ numbers_from l.number (lists (drop l.functions-index l.modules)) ≡ numbers_from 0 (lists l.modules))
    × (l.number + function_count (lists (drop l.functions-index l.modules)) ≡ function_count (lists l.modules))
