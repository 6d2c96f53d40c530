-- What a look-up by numbers finds, and numbers that do not fall along a list.
use Rattle.std.proofs.Common.{◌≡◌, ℕ, zero, suc, ◌-◌, ◌<◌, ◌≤◌, refl, ap, ◌∙◌, arith, List, [], ◌∷◌, ◌++◌, map, length, get_or, Option, Some, None}
use Rattle.std.specs.List.{slice_get}
use Rattle.std.specs.List.Sorted.{IsPartitionPoint}
use Rattle.std.specs.Option.{option_or}
use Rattle.std.specs.Prelude.{nat_le, if◌then◌else◌, option_map, Bool, true, false}
use Rattle.std.proofs.lemmas.Bool.{leb-true, leb-false}
use Rattle.std.proofs.lemmas.Option.{slice_get-get_or}
use Rattle.dwc_dwarf.specs.LineRows.{Row, row_in_force}
use Rattle.dwc_image.specs.ImageRows.{last_at, RisesFrom}

-- the thing before a place
abbrev pub before : {X : Type 0} → List X → ℕ → Option X
before xs zero = None
before xs (suc k) = slice_get xs k

module _ {X : Type 0} (n : X → ℕ) where
  -- where a look-up finds nothing, what another one finds lies above it
  pub last_at-none_above : (xs : List X) (o : ℕ) (p : ℕ) (y : X) → last_at n xs o ≡ None → last_at n xs p ≡ Some y → o < n y
  last_at-none_above [] o p y = λ h k. absurd (cc)
  last_at-none_above (x ∷ xs) o p y = go (last_at-none_above xs o p y) (last_at n xs o) (last_at n xs p) (nat_le (n x) o) (nat_le (n x) p) refl refl refl
    where
      go : (last_at n xs o ≡ None → last_at n xs p ≡ Some y → o < n y) → (a b : Option X) (s t : Bool) → last_at n xs o ≡ a → last_at n xs p ≡ b → nat_le (n x) o ≡ s → option_or a (if s then Some x else None) ≡ None → option_or b (if t then Some x else None) ≡ Some y → o < n y
      go more (Some z) b s t ea eb es h k = absurd (cc)
      go more None b true t ea eb es h k = absurd (cc)
      go more None (Some z) false t ea eb es h k = more ea (eb ∙ k)
      go more None None false true ea eb es h k = let e : x ≡ y = cc in rw (← e) (leb-false (n x) o es)
      go more None None false false ea eb es h k = absurd (cc)

  -- what is found has a number at or below the one looked up
  pub last_at-below : (xs : List X) (o : ℕ) (y : X) → last_at n xs o ≡ Some y → n y ≤ o
  last_at-below [] o y = λ h. absurd (cc)
  last_at-below (x ∷ xs) o y = go (last_at-below xs o y) (last_at n xs o) (nat_le (n x) o) refl refl
    where
      go : (last_at n xs o ≡ Some y → n y ≤ o) → (a : Option X) (s : Bool) → last_at n xs o ≡ a → nat_le (n x) o ≡ s → option_or a (if s then Some x else None) ≡ Some y → n y ≤ o
      go more (Some z) s ea es h = more (ea ∙ h)
      go more None true ea es h = let e : x ≡ y = cc in rw (← e) (leb-true (n x) o es)
      go more None false ea es h = absurd (cc)

  -- Things that look-ups find are one where their numbers are one.
  pub last_at-same : (xs : List X) (o p : ℕ) (y z : X) → last_at n xs o ≡ Some y → last_at n xs p ≡ Some z → n y ≡ n z → y ≡ z
  last_at-same [] o p y z = λ h k e. absurd (cc)
  last_at-same (x ∷ xs) o p y z = go (last_at-same xs o p y z) (last_at n xs o) (last_at n xs p) (nat_le (n x) o) (nat_le (n x) p) refl refl refl refl
    where
      go : (last_at n xs o ≡ Some y → last_at n xs p ≡ Some z → n y ≡ n z → y ≡ z) → (a b : Option X) (s t : Bool) → last_at n xs o ≡ a → last_at n xs p ≡ b → nat_le (n x) o ≡ s → nat_le (n x) p ≡ t → option_or a (if s then Some x else None) ≡ Some y → option_or b (if t then Some x else None) ≡ Some z → n y ≡ n z → y ≡ z
      go more (Some a) (Some b) s t ea eb es et h k e = more (ea ∙ h) (eb ∙ k) e
      go more None (Some b) true t ea eb es et h k e = let q : x ≡ y = cc in absurd (omega (arith, last_at-none_above xs o p z ea (eb ∙ k), leb-true (n x) o es, ap n q))
      go more (Some a) None s true ea eb es et h k e = let q : x ≡ z = cc in absurd (omega (arith, last_at-none_above xs p o y eb (ea ∙ h), leb-true (n x) p et, ap n q))
      go more None None true true ea eb es et h k e = cc
      go more None b false t ea eb es et h k e = absurd (cc)
      go more (Some a) None s false ea eb es et h k e = absurd (cc)
      go more None None true false ea eb es et h k e = absurd (cc)

  pub last_at-append : (xs ys : List X) (o : ℕ) → last_at n (xs ++ ys) o ≡ option_or (last_at n ys o) (last_at n xs o)
  last_at-append [] ys o = go (last_at n ys o)
    where
      go : (a : Option X) → a ≡ option_or a None
      go None = refl
      go (Some x) = refl
  last_at-append (x ∷ xs) ys o = rw (last_at-append xs ys o) (go (last_at n ys o))
    where
      go : (a : Option X) → option_or (option_or a (last_at n xs o)) (if nat_le (n x) o then Some x else None) ≡ option_or a (option_or (last_at n xs o) (if nat_le (n x) o then Some x else None))
      go None = refl
      go (Some y) = refl

-- a look-up among things seen in another way
pub last_at-map : {X Y : Type 0} (n : X → ℕ) (f : Y → X) (ys : List Y) (o : ℕ) → last_at n (map f ys) o ≡ option_map f (last_at (λ y. n (f y)) ys o)
last_at-map n f [] o = refl
last_at-map {X} {Y} n f (y ∷ ys) o = rw (last_at-map n f ys o) (go (last_at (λ z. n (f z)) ys o) (nat_le (n (f y)) o))
  where
    go : (a : Option Y) (b : Bool) → option_or (option_map f a) (if b then Some (f y) else None) ≡ option_map f (option_or a (if b then Some y else None))
    go (Some x) b = refl
    go None true = refl
    go None false = refl

-- the row in force is what the last row at or below says
pub row_in_force-last_at : (rows : List Row) (o : ℕ) → row_in_force rows o ≡ option_map (λ r. r.source) (last_at (λ r. r.offset) rows o)
row_in_force-last_at [] o = refl
row_in_force-last_at (r ∷ rs) o = rw (row_in_force-last_at rs o) (go (last_at (λ q. q.offset) rs o) (nat_le r.offset o))
  where
    go : (a : Option Row) (b : Bool) → option_or (option_map (λ q. q.source) a) (if b then Some r.source else None) ≡ option_map (λ q. q.source) (option_or a (if b then Some r else None))
    go (Some x) b = refl
    go None true = refl
    go None false = refl

module _ {X : Type 0} (n : X → ℕ) where
  -- the look-up by halves where the numbers do not fall: what is found stands before the partition point
  pub last_at-at_partition : (xs : List X) (o i : ℕ) → i ≤ length xs → IsPartitionPoint (λ y. nat_le (n y) o ≡ true) (λ y. nat_le (n y) o ≡ false) xs i → last_at n xs o ≡ before xs i
  last_at-at_partition [] o zero le h = refl
  last_at-at_partition [] o (suc i) le h = refl
  last_at-at_partition (x ∷ xs) o zero le h = rw (last_at-at_partition xs o zero (omega arith) (λ k d low high. absurd (omega arith), λ k d low high. h.1 (suc k) d (omega arith) (omega arith)), h.1 0 x (omega arith) (omega arith)) refl
  last_at-at_partition (x ∷ xs) o (suc zero) le h = rw (last_at-at_partition xs o zero (omega arith) (λ k d low high. absurd (omega arith), λ k d low high. h.1 (suc k) d (omega arith) (omega arith)), h.0 0 x (omega arith) (omega arith)) refl
  last_at-at_partition (x ∷ xs) o (suc (suc i)) le h = rw (last_at-at_partition xs o (suc i) (omega arith) (λ k d low high. h.0 (suc k) d (omega arith) (omega arith), λ k d low high. h.1 (suc k) d (omega arith) (omega arith)), slice_get-get_or xs i x (omega arith)) refl

  -- the same by the place that a search by halves answers
  pub last_at-found : (xs : List X) (o i : ℕ) (d : X) → i ≤ length xs → 0 < i → IsPartitionPoint (λ y. nat_le (n y) o ≡ true) (λ y. nat_le (n y) o ≡ false) xs i → last_at n xs o ≡ Some (get_or xs (i - 1) d)
  last_at-found xs o zero d le some h = absurd (omega arith)
  last_at-found xs o (suc k) d le some h =
      let e : suc k - 1 ≡ k = omega arith in
      rw e (last_at-at_partition xs o (suc k) le h ∙ slice_get-get_or xs k d (omega arith))

  pub last_at-not_found : (xs : List X) (o i : ℕ) → i ≡ 0 → IsPartitionPoint (λ y. nat_le (n y) o ≡ true) (λ y. nat_le (n y) o ≡ false) xs i → last_at n xs o ≡ None
  last_at-not_found xs o i e h = last_at-at_partition xs o 0 (omega arith) (rw e at h)

-- what is found among things that rise is not below where they begin
pub last_at-at_least : {X : Type 0} (n : X → ℕ) (xs : List X) (low o : ℕ) (y : X) → RisesFrom n low xs → last_at n xs o ≡ Some y → low ≤ n y
last_at-at_least n [] low o y h = λ e. absurd (cc)
last_at-at_least {X} n (x ∷ xs) low o y h = go (last_at n xs o) (nat_le (n x) o) refl (last_at-at_least n xs (n x) o y h.1)
  where
    go : (a : Option X) (b : Bool) → last_at n xs o ≡ a → (last_at n xs o ≡ Some y → n x ≤ n y) → option_or a (if b then Some x else None) ≡ Some y → low ≤ n y
    go (Some z) b is more e = omega (arith, h.0, more (is ∙ e))
    go None true is more e = let same : x ≡ y = cc in rw (← same) h.0
    go None false is more e = absurd (cc)
