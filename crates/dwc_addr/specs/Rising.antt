-- Numbers that do not fall along a list.
use Rattle.std.specs.Prelude.{ℕ, ◌≤◌, List, [], ◌∷◌}

-- the number does not fall along a list, from a number on
abbrev pub RisesFrom : {X : Type 0} → (X → ℕ) → ℕ → List X → Type 0
RisesFrom n low [] = Unit {0}
RisesFrom n low (x ∷ xs) = (low ≤ n x) × RisesFrom n (n x) xs
