-- Functions that share symbols, on small lists.
use Rattle.std.proofs.Common.{◌≡◌, refl, [], ◌∷◌, Some, None}
use Rattle.dwc_native.specs.SharedSymbols.{shared_symbol}

no_functions : shared_symbol [] ≡ None
no_functions = refl

-- functions without symbols share none
no_symbols : shared_symbol (None ∷ None ∷ Some 5 ∷ None ∷ []) ≡ None
no_symbols = refl

apart : shared_symbol (Some 0 ∷ Some 1 ∷ Some 2 ∷ []) ≡ None
apart = refl

two_of_one : shared_symbol (Some 7 ∷ Some 7 ∷ []) ≡ Some (0, 1)
two_of_one = refl

-- functions without symbols have numbers too
behind_gaps : shared_symbol (None ∷ Some 3 ∷ None ∷ Some 4 ∷ Some 3 ∷ []) ≡ Some (1, 4)
behind_gaps = refl

-- of two pairs the one whose second comes first counts, though its first comes later
least_second : shared_symbol (Some 1 ∷ Some 2 ∷ Some 2 ∷ Some 1 ∷ []) ≡ Some (1, 2)
least_second = refl

-- of three functions of one symbol the first two count
three_of_one : shared_symbol (Some 9 ∷ Some 9 ∷ Some 9 ∷ []) ≡ Some (0, 1)
three_of_one = refl
