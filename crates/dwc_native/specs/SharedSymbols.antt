-- Functions that have one symbol. Functions are numbered over all modules in order, and a list of their symbols tells by its
-- places which number has which.
use Rattle.std.specs.Prelude.{ℕ, suc, ◌==◌, List, [], ◌∷◌, ◌++◌, length, Bool, false, if◌then◌else◌, Option, Some, None, option_map}
use Rattle.std.specs.Option.{option_or}

-- whether a function with a symbol or none has this one
abbrev pub has_symbol : ℕ → Option ℕ → Bool
has_symbol symbol None = false
has_symbol symbol (Some s) = s == symbol

-- the number of the first function with a symbol
abbrev pub holder : ℕ → List (Option ℕ) → Option ℕ
holder symbol [] = None
holder symbol (s ∷ ss) = if has_symbol symbol s then Some 0 else option_map suc (holder symbol ss)

-- the number of the first of some functions with the symbol of a further one, if that has one
abbrev pub holder_of : Option ℕ → List (Option ℕ) → Option ℕ
holder_of None before = None
holder_of (Some symbol) before = holder symbol before

-- of the functions behind those before, the first whose symbol came before: where it came, and its own number
abbrev pub shared_behind : List (Option ℕ) → List (Option ℕ) → Option (ℕ × ℕ)
shared_behind before [] = None
shared_behind before (s ∷ ss) = option_or (option_map (λ first. (first, length before)) (holder_of s before)) (shared_behind (before ++ (s ∷ [])) ss)

-- The least number of a function whose symbol came before, behind the number where it came; none where no two functions
-- share a symbol.
abbrev pub shared_symbol : List (Option ℕ) → Option (ℕ × ℕ)
shared_symbol symbols = shared_behind [] symbols
