use Rattle.std.proofs.Common.{◌≡◌, ◌++◌, drop}
use Rattle.dwc_addr.specs.Numbers.{all_symbols}
use Rattle.dwc_addr.specs.Compilations.{lists}
use Rattle.dwc_addr.proofs.symbols.all_symbols.Given as goal

-- the symbols so far, and those of the modules that are left, are all
abbrev pub invariant-loop-functions : goal.invariant-loop-functions
invariant-loop-functions l = l.symbols.items ++ all_symbols (lists (drop l.functions-index l.modules)) ≡ all_symbols (lists l.modules)
