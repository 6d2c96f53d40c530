use Rattle.std.proofs.Common.{◌≡◌, map, take, drop}
use Rattle.dwc_native.specs.SharedSymbols.{shared_behind, shared_symbol}
use Rattle.dwc_addr.specs.Numbers.{symbol_view}
use Rattle.dwc_addr.specs.SymbolIndexes.{IsIndex}
use Rattle.dwc_addr.proofs.symbols.check_distinct.Given as goal

-- the map has the functions so far; of those that are left the first that shares a symbol is that of all
abbrev pub invariant-loop-i : goal.invariant-loop-i
invariant-loop-i l =
    IsIndex (map symbol_view (take l.i l.symbols)) l.numbers
    × (shared_behind (map symbol_view (take l.i l.symbols)) (map symbol_view (drop l.i l.symbols)) ≡ shared_symbol (map symbol_view l.symbols))
