-- Texts as a table keeps them, each once.
use Rattle.std.specs.Prelude.{◌≢◌, ℕ, ◌<◌, List}
use Rattle.std.specs.List.{All, AllPairs}

-- a text has no zero byte
abbrev pub IsText : List ℕ → Type 0
IsText t = All (λ b. 0 < b) t

-- The texts of a table are bytes other than 0, and no two are equal.
pub record AreTexts (ts : List (List ℕ)) : Type 0 where
  pub plain : All IsText ts
  pub bytes : All (λ t. All (λ b. b < 256) t) ts
  pub distinct : AllPairs (λ s t. s ≢ t) ts
