-- Where the parents of entries stand, by the depths of a tree.
use Rattle.std.proofs.Common.{◌≡◌, ℕ, zero, suc, ◌<◌, ◌≤◌, ◌⊎◌, List, [], ◌∷◌, length, get_or, sym, subst, inl, inr, arith}
use Rattle.std.proofs.lemmas.Bool.{cases_order}
use Rattle.dwc_kept.specs.KeptUnits.{AreBelow, IsTree}

-- A depth's parent: the last place before it of depth one less; all places between are at its depth or below.
pub record IsParentPlace (ds : List ℕ) (i p : ℕ) : Type 0 where
  pub before : p < i
  pub depth : get_or ds i 0 ≡ suc (get_or ds p 0)
  pub between : (j : ℕ) → p < j → j < i → get_or ds i 0 ≤ get_or ds j 0

below-at : (depth : ℕ) (ds : List ℕ) → AreBelow depth ds → (i : ℕ) → i < length ds → (0 < get_or ds i 0) × (get_or (depth ∷ ds) (suc i) 0 ≤ suc (get_or (depth ∷ ds) i 0))
below-at depth [] h i less = absurd (omega (arith, less))
below-at depth (d ∷ ds) h zero less = (h.0, h.1)
below-at depth (d ∷ ds) h (suc i) less = below-at d ds h.2 i (omega (arith, less))

module _ (depth : ℕ) (ds : List ℕ) (root : depth ≡ 0) (below : AreBelow depth ds) where
  abbrev at : ℕ → ℕ
  at i = get_or (depth ∷ ds) i 0

  some-at : (i : ℕ) → 0 < i → i < suc (length ds) → 0 < at i
  some-at zero some less = absurd (omega (arith, some))
  some-at (suc i) some less = (below-at depth ds below i (omega (arith, less))).0

  -- behind a place all is at a depth or below it: the depth is at most one more than that of the place
  near : (i k : ℕ) → i < suc (length ds) → k < i → ((j : ℕ) → k < j → j < i → at i ≤ at j) → at i ≤ suc (at k)
  near i k less low all = go (cases_order (suc k) i)
    where
      step : at (suc k) ≤ suc (at k)
      step = (below-at depth ds below k (omega (arith, low, less))).1

      go : (suc k ≡ i) ⊎ ((suc k < i) ⊎ (i < suc k)) → at i ≤ suc (at k)
      go (inl e) = subst (λ n. at n ≤ suc (at k)) e step
      go (inr (inl next)) = let first = all (suc k) (omega arith) next in omega (arith, first, step)
      go (inr (inr past)) = absurd (omega (arith, past, low))

  parent-from : (i : ℕ) → 0 < i → i < suc (length ds) → (k : ℕ) → k < i → ((j : ℕ) → k < j → j < i → at i ≤ at j) → (p : ℕ) × IsParentPlace (depth ∷ ds) i p
  parent-from i some less zero low all = let close = near i 0 less low all in (0, record { before = low; depth = omega (arith, close, root, some-at i some less); between = all })
  parent-from i some less (suc k) low all = go (cases_order (at (suc k)) (at i)) (λ h. parent-from i some less k (omega (arith, low)) h)
    where
      more : at i ≤ at (suc k) → (j : ℕ) → k < j → j < i → at i ≤ at j
      more le j above under = split (cases_order j (suc k))
        where
          split : (j ≡ suc k) ⊎ ((j < suc k) ⊎ (suc k < j)) → at i ≤ at j
          split (inl e) = subst (λ n. at i ≤ at n) (sym e) le
          split (inr (inl past)) = absurd (omega (arith, past, above))
          split (inr (inr behind)) = all j behind under

      go : (at (suc k) ≡ at i) ⊎ ((at (suc k) < at i) ⊎ (at i < at (suc k))) → (((j : ℕ) → k < j → j < i → at i ≤ at j) → (p : ℕ) × IsParentPlace (depth ∷ ds) i p) → (p : ℕ) × IsParentPlace (depth ∷ ds) i p
      go (inl e) rest = rest (more (omega (arith, e)))
      go (inr (inl small)) rest = let close = near i (suc k) less low all in (suc k, record { before = low; depth = omega (arith, close, small); between = all })
      go (inr (inr large)) rest = rest (more (omega (arith, large)))

-- Each depth of a tree but the first has a parent.
pub parent-place : (ds : List ℕ) → IsTree ds → (i : ℕ) → 0 < i → i < length ds → (p : ℕ) × IsParentPlace ds i p
parent-place [] h i some less = absurd (omega (arith, less))
parent-place (d ∷ ds) h zero some less = absurd (omega (arith, some))
parent-place (d ∷ ds) h (suc i) some less = parent-from d ds h.0 (subst (λ n. AreBelow n ds) (sym h.0) h.1) (suc i) some less i (omega arith) (λ j above under. absurd (omega (arith, above, under)))
