-- The last entries at each depth.
use Rattle.std.proofs.Common.{◌≡◌, ℕ, zero, suc, ◌<◌, ◌≤◌, List, [], ◌∷◌, ◌++◌, length, get_or, set, refl, ap, arith, Some, None}
use Rattle.std.specs.Prelude.{Option}
use Rattle.dwc_kept.specs.declared.last_at.LastAt.{LastAt}
use Rattle.dwc_kept.specs.ReadEntries.{with_last_at}

pub last-grows : (xs : List (Option LastAt)) (depth : ℕ) (last : LastAt) → length xs ≤ depth → with_last_at (xs ++ None ∷ []) depth last ≡ with_last_at xs depth last
last-grows [] zero last le = refl
last-grows [] (suc depth) last le = refl
last-grows (x ∷ xs) zero last le = absurd (omega (arith, le))
last-grows (x ∷ xs) (suc depth) last le = ap (λ ys. x ∷ ys) (last-grows xs depth last (omega (arith, le)))

pub last-set : (xs : List (Option LastAt)) (depth : ℕ) (last : LastAt) → depth < length xs → with_last_at xs depth last ≡ set xs depth (Some last)
last-set [] depth last less = absurd (omega (arith, less))
last-set (x ∷ xs) zero last less = refl
last-set (x ∷ xs) (suc depth) last less = ap (λ ys. x ∷ ys) (last-set xs depth last (omega (arith, less)))

pub last-here : (xs : List (Option LastAt)) (depth : ℕ) (last : LastAt) → get_or (with_last_at xs depth last) depth None ≡ Some last
last-here [] zero last = refl
last-here [] (suc depth) last = last-here [] depth last
last-here (x ∷ xs) zero last = refl
last-here (x ∷ xs) (suc depth) last = last-here xs depth last

pub last-other : (xs : List (Option LastAt)) (depth : ℕ) (last : LastAt) (k : ℕ) → (k ≡ depth → ⊥) → get_or (with_last_at xs depth last) k None ≡ get_or xs k None
last-other [] zero last zero d = absurd (d refl)
last-other [] zero last (suc k) d = refl
last-other [] (suc depth) last zero d = refl
last-other [] (suc depth) last (suc k) d = last-other [] depth last k (λ e. d (ap suc e))
last-other (x ∷ xs) zero last zero d = absurd (d refl)
last-other (x ∷ xs) zero last (suc k) d = refl
last-other (x ∷ xs) (suc depth) last zero d = refl
last-other (x ∷ xs) (suc depth) last (suc k) d = last-other xs depth last k (λ e. d (ap suc e))
