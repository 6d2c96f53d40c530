-- A map from symbols to the numbers of the first functions with them.
use Rattle.std.specs.Prelude.{◌≡◌, ℕ, List, [], ◌∷◌, ◌++◌, Option, Some, None, Result, Ok, Err}
use Rattle.std.specs.Ordering.{nat_cmp}
use Rattle.std.specs.BTreeMap.{BTreeMap, get}
use Rattle.dwc_native.specs.SharedSymbols.{holder, holder_of}

-- the map has the first of some functions with each symbol
abbrev pub IsIndex : List (Option ℕ) → BTreeMap ℕ ℕ → Type 0
IsIndex before numbers = (symbol : ℕ) → get nat_cmp numbers symbol ≡ holder symbol before

-- none of some functions has the symbol of the next one, and the map has that too; or the first that has it is told
abbrev pub Notes : {E : Type 0} → List (Option ℕ) → Option ℕ → BTreeMap ℕ ℕ → Result (Option ℕ) E → Type 0
Notes before symbol numbers (Ok None) = (holder_of symbol before ≡ None) × IsIndex (before ++ (symbol ∷ [])) numbers
Notes before symbol numbers (Ok (Some first)) = holder_of symbol before ≡ Some first
Notes before symbol numbers (Err e) = Unit {0}
