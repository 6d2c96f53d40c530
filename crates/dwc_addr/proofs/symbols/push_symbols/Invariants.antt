use Rattle.std.proofs.Common.{◌≡◌, ◌++◌, drop}
use Rattle.dwc_addr.specs.Numbers.{symbols_in}
use Rattle.dwc_addr.proofs.symbols.push_symbols.Given as goal

-- the symbols so far, and those of the functions that are left, are all
abbrev pub invariant-loop-symbol : goal.invariant-loop-symbol
invariant-loop-symbol l = l.symbols.items ++ symbols_in (drop l.symbol-index l.functions) ≡ l.fn.symbols.items ++ symbols_in l.functions
