-- Rules of the stack that keep the low 32 bits: numbers that are pushed, added to or picked.
use Rattle.std.proofs.Common.{◌≡◌, ℕ, zero, suc, ◌+◌, ◌^◌, ◌%◌, ◌<◌, refl, ap, subst, ◌∙◌, arith, List, [], ◌∷◌, Option, Some, None, Result, Ok, Err}
use Rattle.std.specs.Prelude.{slice_get, option_map, ok_or}
use Rattle.std.specs.Option.{unwrap_or}
use Rattle.std.specs.List.{AllZip}
use Rattle.dwc_machines.specs.StackOperations.{Stop, element_missing, wrapped, StackRule, is_number, pushes, adds, picks, by_rule}
use Rattle.dwc_machines.proofs.LowBits.{low-sum_with}

-- a number of 64 bits and its low 32 bits, and stacks of such
abbrev pub IsLow : ℕ → ℕ → Type 0
IsLow a b = (a % 2 ^ 32 ≡ b) × (a < 2 ^ 64)

abbrev pub Low : List ℕ → List ℕ → Type 0
Low s t = AllZip IsLow s t

pub record Gives (r : Result (List ℕ) Stop) (t : List ℕ) : Type 0 where
  pub stack : List ℕ
  pub is : r ≡ Ok stack
  pub low : Low stack t

-- A rule with an operand keeps that.
pub record KeepsLow (operand : ℕ) (rule : StackRule) : Type 0 where
  pub keeps : (s t u : List ℕ) → Low s t → by_rule 4 operand rule t ≡ Ok u → Gives (by_rule 8 operand rule s) u

pub ok-is : {A : Type 0} {x y : A} → ◌≡◌ {A = Result A Stop} (Ok x) (Ok y) → x ≡ y
ok-is {A} {x} {y} h = ap (λ (r : Result A Stop). go r) h
  where
    go : Result A Stop → A
    go (Ok z) = z
    go (Err stop) = x

pub made : (s t u : List ℕ) → Low s t → ◌≡◌ {A = Result (List ℕ) Stop} (Ok t) (Ok u) → Gives (Ok s) u
made s t u l h = record { stack = s; is = refl; low = subst (Low s) (ok-is h) l }

-- ---- numbers

pub keeps-number : (operand n : ℕ) → n < 2 ^ 32 → KeepsLow operand (is_number n)
keeps-number operand n small = record { keeps = λ s t u l h. made (n ∷ s) (n ∷ t) u ((omega arith, omega arith), l) h }

pub keeps-pushes : (operand : ℕ) → KeepsLow operand pushes
keeps-pushes operand = record { keeps = λ s t u l h. made (wrapped 8 operand ∷ s) (wrapped 4 operand ∷ t) u ((omega arith, omega arith), l) h }

pub keeps-adds : (operand : ℕ) → KeepsLow operand adds
keeps-adds operand = record { keeps = go }
  where
    go : (s t u : List ℕ) → Low s t → by_rule 4 operand adds t ≡ Ok u → Gives (by_rule 8 operand adds s) u
    go [] [] u l h = absurd (cc)
    go [] (b ∷ t) u l h = absurd l
    go (a ∷ s) [] u l h = absurd l
    go (a ∷ s) (b ∷ t) u l h = made (wrapped 8 (a + operand) ∷ s) (wrapped 4 (b + operand) ∷ t) u ((low-sum_with a operand ∙ ap (λ c. wrapped 4 (c + operand)) (l.0).0, omega arith), l.1) h

picked : (s t : List ℕ) (i b : ℕ) → Low s t → slice_get t i ≡ Some b → (a : ℕ) × (slice_get s i ≡ Some a) × IsLow a b
picked [] [] i b l h = absurd (cc)
picked [] (c ∷ t) i b l h = absurd l
picked (a ∷ s) [] i b l h = absurd l
picked (a ∷ s) (c ∷ t) zero b l h = (a, refl, subst (IsLow a) (ap (λ (o : Option ℕ). unwrap_or o c) h) l.0)
picked (a ∷ s) (c ∷ t) (suc i) b l h = picked s t i b l.1 h

pub keeps-picks : (operand : ℕ) → KeepsLow operand picks
keeps-picks operand = record { keeps = λ s t u l h. go s t u l (slice_get t operand) refl h }
  where
    go : (s t u : List ℕ) → Low s t → (o : Option ℕ) → slice_get t operand ≡ o → ok_or (option_map (λ a. a ∷ t) o) element_missing ≡ Ok u → Gives (ok_or (option_map (λ a. a ∷ s) (slice_get s operand)) element_missing) u
    go s t u l None e h = absurd (cc)
    go s t u l (Some b) e h =
        let p = picked s t operand b l e in
        record { stack = p.0 ∷ s; is = ap (λ o. ok_or (option_map (λ a. a ∷ s) o) element_missing) p.1; low = subst (Low (p.0 ∷ s)) (ok-is h) (p.2, l) }
