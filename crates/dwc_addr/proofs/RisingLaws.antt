-- Numbers that do not fall along a list, by its elements and by their places.
use Rattle.std.proofs.Common.{ℕ, zero, suc, ◌<◌, ◌≤◌, arith, List, [], ◌∷◌, map, length, get_or}
use Rattle.std.specs.List.Sorted.{IsNonDecreasingBy}
use Rattle.dwc_addr.specs.Rising.{RisesFrom}

-- things that rise are at least where they begin, and do not fall
pub RisesFrom-weaker : {X : Type 0} (n : X → ℕ) (low high : ℕ) (xs : List X) → low ≤ high → RisesFrom n high xs → RisesFrom n low xs
RisesFrom-weaker n low high [] le h = tt
RisesFrom-weaker n low high (x ∷ xs) le h = (omega (arith, h.0), h.1)

pub RisesFrom-at : {X : Type 0} (n : X → ℕ) (low : ℕ) (xs : List X) (k : ℕ) (d : X) → RisesFrom n low xs → k < length xs → low ≤ n (get_or xs k d)
RisesFrom-at n low [] k d h less = absurd (omega arith)
RisesFrom-at n low (x ∷ xs) zero d h less = h.0
RisesFrom-at n low (x ∷ xs) (suc k) d h less = omega (arith, h.0, RisesFrom-at n (n x) xs k d h.1 (omega arith))

pub RisesFrom-non_decreasing : {X : Type 0} (n : X → ℕ) (low : ℕ) (xs : List X) → RisesFrom n low xs → IsNonDecreasingBy n xs
RisesFrom-non_decreasing n low [] h = λ i j d le less. absurd (omega arith)
RisesFrom-non_decreasing {X} n low (x ∷ xs) h = go (RisesFrom-non_decreasing n (n x) xs h.1)
  where
    go : IsNonDecreasingBy n xs → (i j : ℕ) (d : X) → i ≤ j → j < suc (length xs) → n (get_or (x ∷ xs) i d) ≤ n (get_or (x ∷ xs) j d)
    go more zero zero d le less = omega arith
    go more zero (suc j) d le less = RisesFrom-at n (n x) xs j d h.1 (omega arith)
    go more (suc i) zero d le less = absurd (omega arith)
    go more (suc i) (suc j) d le less = more i j d (omega arith) (omega arith)

pub RisesFrom-from_non_decreasing : {X : Type 0} (n : X → ℕ) (low : ℕ) (xs : List X) → IsNonDecreasingBy n xs → ((d : X) → 0 < length xs → low ≤ n (get_or xs 0 d)) → RisesFrom n low xs
RisesFrom-from_non_decreasing n low [] h first = tt
RisesFrom-from_non_decreasing n low (x ∷ xs) h first = (first x (omega arith), RisesFrom-from_non_decreasing n (n x) xs (λ i j d le less. h (suc i) (suc j) d (omega arith) (omega arith)) (λ d some. h 0 1 d (omega arith) (omega arith)))

pub RisesFrom-map : {X Y : Type 0} (n : X → ℕ) (f : Y → X) (low : ℕ) (ys : List Y) → RisesFrom (λ y. n (f y)) low ys → RisesFrom n low (map f ys)
RisesFrom-map n f low [] h = tt
RisesFrom-map n f low (y ∷ ys) h = (h.0, RisesFrom-map n f (n (f y)) ys h.1)

pub RisesFrom-seen : {X Y : Type 0} (n : X → ℕ) (f : Y → X) (low : ℕ) (ys : List Y) → RisesFrom n low (map f ys) → RisesFrom (λ y. n (f y)) low ys
RisesFrom-seen n f low [] h = tt
RisesFrom-seen n f low (y ∷ ys) h = (h.0, RisesFrom-seen n f (n (f y)) ys h.1)
