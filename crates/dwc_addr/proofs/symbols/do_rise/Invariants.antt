use Rattle.std.proofs.Common.{◌≡◌, map, take, drop}
use Rattle.dwc_native.specs.SharedSymbols.{shared_behind, shared_symbol}
use Rattle.dwc_addr.specs.Numbers.{symbol_view}
use Rattle.dwc_addr.proofs.SymbolLaws.{EndBelow}
use Rattle.dwc_addr.proofs.symbols.do_rise.Given as goal

-- the symbols so far are below `least`; of the functions that are left the first that shares a symbol is that of all
abbrev pub invariant-loop-i : goal.invariant-loop-i
invariant-loop-i l =
    EndBelow l.least (map symbol_view (take l.i l.symbols))
    × (shared_behind (map symbol_view (take l.i l.symbols)) (map symbol_view (drop l.i l.symbols)) ≡ shared_symbol (map symbol_view l.symbols))
