-- Rules that move elements keep the low 32 bits.
use Rattle.std.proofs.Common.{◌≡◌, ℕ, List, [], ◌∷◌, Some, Ok}
use Rattle.dwc_machines.specs.StackOperations.{moves, duplicated, dropped, copied_over, swapped, rotated, by_rule}
use Rattle.dwc_machines.proofs.LowNumbers.{Gives, KeepsLow, Low, made}

-- ---- what moves elements

pub keeps-duplicated : (operand : ℕ) → KeepsLow operand (moves duplicated)
keeps-duplicated operand = record { keeps = go }
  where
    go : (s t u : List ℕ) → Low s t → by_rule 4 operand (moves duplicated) t ≡ Ok u → Gives (by_rule 8 operand (moves duplicated) s) u
    go [] [] u l h = absurd (cc)
    go [] (b ∷ t) u l h = absurd l
    go (a ∷ s) [] u l h = absurd l
    go (a ∷ s) (b ∷ t) u l h = made (a ∷ a ∷ s) (b ∷ b ∷ t) u (l.0, (l.0, l.1)) h

pub keeps-dropped : (operand : ℕ) → KeepsLow operand (moves dropped)
keeps-dropped operand = record { keeps = go }
  where
    go : (s t u : List ℕ) → Low s t → by_rule 4 operand (moves dropped) t ≡ Ok u → Gives (by_rule 8 operand (moves dropped) s) u
    go [] [] u l h = absurd (cc)
    go [] (b ∷ t) u l h = absurd l
    go (a ∷ s) [] u l h = absurd l
    go (a ∷ s) (b ∷ t) u l h = made s t u l.1 h

pub keeps-copied_over : (operand : ℕ) → KeepsLow operand (moves copied_over)
keeps-copied_over operand = record { keeps = go }
  where
    go : (s t u : List ℕ) → Low s t → by_rule 4 operand (moves copied_over) t ≡ Ok u → Gives (by_rule 8 operand (moves copied_over) s) u
    go [] [] u l h = absurd (cc)
    go [] (d ∷ t) u l h = absurd l
    go (b ∷ s) [] u l h = absurd l
    go (b ∷ []) (d ∷ []) u l h = absurd (cc)
    go (b ∷ []) (d ∷ c ∷ t) u l h = absurd l.1
    go (b ∷ a ∷ s) (d ∷ []) u l h = absurd l.1
    go (b ∷ a ∷ s) (d ∷ c ∷ t) u l h = made (a ∷ b ∷ a ∷ s) (c ∷ d ∷ c ∷ t) u ((l.1).0, (l.0, l.1)) h

pub keeps-swapped : (operand : ℕ) → KeepsLow operand (moves swapped)
keeps-swapped operand = record { keeps = go }
  where
    go : (s t u : List ℕ) → Low s t → by_rule 4 operand (moves swapped) t ≡ Ok u → Gives (by_rule 8 operand (moves swapped) s) u
    go [] [] u l h = absurd (cc)
    go [] (d ∷ t) u l h = absurd l
    go (b ∷ s) [] u l h = absurd l
    go (b ∷ []) (d ∷ []) u l h = absurd (cc)
    go (b ∷ []) (d ∷ c ∷ t) u l h = absurd l.1
    go (b ∷ a ∷ s) (d ∷ []) u l h = absurd l.1
    go (b ∷ a ∷ s) (d ∷ c ∷ t) u l h = made (a ∷ b ∷ s) (c ∷ d ∷ t) u ((l.1).0, (l.0, (l.1).1)) h

pub keeps-rotated : (operand : ℕ) → KeepsLow operand (moves rotated)
keeps-rotated operand = record { keeps = go }
  where
    go : (s t u : List ℕ) → Low s t → by_rule 4 operand (moves rotated) t ≡ Ok u → Gives (by_rule 8 operand (moves rotated) s) u
    go [] [] u l h = absurd (cc)
    go [] (f ∷ t) u l h = absurd l
    go (c ∷ s) [] u l h = absurd l
    go (c ∷ []) (f ∷ []) u l h = absurd (cc)
    go (c ∷ []) (f ∷ e ∷ t) u l h = absurd l.1
    go (c ∷ b ∷ s) (f ∷ []) u l h = absurd l.1
    go (c ∷ b ∷ []) (f ∷ e ∷ []) u l h = absurd (cc)
    go (c ∷ b ∷ []) (f ∷ e ∷ d ∷ t) u l h = absurd (l.1).1
    go (c ∷ b ∷ a ∷ s) (f ∷ e ∷ []) u l h = absurd (l.1).1
    go (c ∷ b ∷ a ∷ s) (f ∷ e ∷ d ∷ t) u l h = made (b ∷ a ∷ c ∷ s) (e ∷ d ∷ f ∷ t) u ((l.1).0, (((l.1).1).0, (l.0, ((l.1).1).1))) h

pub keeps-stack : (operand : ℕ) → KeepsLow operand (moves (λ s. Some s))
keeps-stack operand = record { keeps = λ s t u l h. made s t u l h }
