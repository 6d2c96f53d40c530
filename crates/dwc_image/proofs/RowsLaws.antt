-- Rows of any kind that are made of recorded sources: where they stand, which they are, and how they are seen.
use Rattle.std.proofs.Common.{◌≡◌, ℕ, ◌-◌, ◌≤◌, refl, ◌∙◌, arith, List, [], ◌∷◌, map, Option, Some, None}
use Rattle.std.specs.Option.{option_or}
use Rattle.std.specs.Prelude.{nat_le, ◌==◌, if◌then◌else◌, option_map, Bool, true, false, All}
use Rattle.std.proofs.lemmas.List.Elements.{All-nil, All-cons, All-head, All-tail}
use Rattle.dwc_native.specs.Functions.{Recorded}
use Rattle.dwc_image.specs.ImageRows.{last_at, RisesFrom, found_at, is_repeated, placed_at, with_found, rows_from}
use Rattle.dwc_addr.proofs.RisingLaws.{RisesFrom-weaker}
use Rattle.dwc_image.proofs.LookupLaws.{last_at-map}

module _ {R : Type 0} (n : R → ℕ) (move : ℕ → R → R) (moves : (k : ℕ) (r : R) → n (move k r) ≡ k) (rows : List R) (start : ℕ) where
  -- the rows lie in the function
  pub rows_from-within : (es : List Recorded) (found : Option ℕ) (most : ℕ) → All (λ e. e.native ≤ most) es → All (λ r. n r ≤ most) (rows_from n move rows start found es)
  rows_from-within [] found most h = All-nil (λ r. n r ≤ most)
  rows_from-within (e ∷ es) found most h = go (found_at n rows start e) (λ b. rows_from-within es b most (All-tail (λ (z : Recorded). z.native ≤ most) e es h))
    where
      here : (found : Option ℕ) (r : R) → n (move (placed_at found e.native) r) ≤ most
      here None r = rw (moves 0 r) (omega arith)
      here (Some b) r = rw (moves e.native r) (All-head (λ (z : Recorded). z.native ≤ most) e es h)

      go : (o : Option R) → ((b : Option ℕ) → All (λ r. n r ≤ most) (rows_from n move rows start b es)) → All (λ r. n r ≤ most) (with_found n move (λ b. rows_from n move rows start b es) found e.native o)
      go None more = more found
      go (Some r) more = inner (is_repeated found (n r))
        where
          inner : (b : Bool) → All (λ r. n r ≤ most) (if b then rows_from n move rows start found es else move (placed_at found e.native) r ∷ rows_from n move rows start (Some (n r)) es)
          inner true = more found
          inner false = All-cons (λ r. n r ≤ most) _ _ (here found r) (more (Some (n r)))

  rows_from-rises_behind : (es : List Recorded) (b low : ℕ) → RisesFrom (λ e. e.native) low es → RisesFrom n low (rows_from n move rows start (Some b) es)
  rows_from-rises_behind [] b low h = tt
  rows_from-rises_behind (e ∷ es) b low h = go (found_at n rows start e) (λ c. rows_from-rises_behind es c e.native h.1)
    where
      go : (o : Option R) → ((c : ℕ) → RisesFrom n e.native (rows_from n move rows start (Some c) es)) → RisesFrom n low (with_found n move (λ c. rows_from n move rows start c es) (Some b) e.native o)
      go None more = RisesFrom-weaker _ _ _ _ h.0 (more b)
      go (Some r) more = inner (b == n r)
        where
          inner : (t : Bool) → RisesFrom n low (if t then rows_from n move rows start (Some b) es else move e.native r ∷ rows_from n move rows start (Some (n r)) es)
          inner true = RisesFrom-weaker _ _ _ _ h.0 (more b)
          inner false = rw (moves e.native r) (h.0, more (n r))

  -- and do not fall in offset
  pub rows_from-rises : (es : List Recorded) (low : ℕ) → RisesFrom (λ e. e.native) low es → RisesFrom n 0 (rows_from n move rows start None es)
  rows_from-rises [] low h = tt
  rows_from-rises (e ∷ es) low h = go (found_at n rows start e) (rows_from-rises es e.native h.1)
    where
      go : (o : Option R) → RisesFrom n 0 (rows_from n move rows start None es) → RisesFrom n 0 (with_found n move (λ c. rows_from n move rows start c es) None e.native o)
      go None more = more
      go (Some r) more = rw (moves 0 r) (omega arith, RisesFrom-weaker _ _ _ _ (omega arith) (rows_from-rises_behind es (n r) e.native h.1))

-- what a look-up finds is among the things
last_at-among : {X : Type 0} (n : X → ℕ) (P : X → Type 0) (xs : List X) (o : ℕ) (y : X) → All P xs → last_at n xs o ≡ Some y → P y
last_at-among n P [] o y all = λ h. absurd (cc)
last_at-among {X} n P (x ∷ xs) o y all = go (last_at n xs o) (nat_le (n x) o) refl (last_at-among n P xs o y (All-tail P x xs all))
  where
    same : (a b : X) → a ≡ b → P a → P b
    same a b e h = rw (← e) h

    go : (a : Option X) (b : Bool) → last_at n xs o ≡ a → (last_at n xs o ≡ Some y → P y) → option_or a (if b then Some x else None) ≡ Some y → P y
    go (Some z) b is more e = more (is ∙ e)
    go None true is more e = same x y (cc) (All-head P x xs all)
    go None false is more e = absurd (cc)

-- what holds of rows wherever they stand holds of those of an image
pub rows_from-each : {R : Type 0} (n : R → ℕ) (move : ℕ → R → R) (P : R → Type 0) → ((k : ℕ) (r : R) → P r → P (move k r)) → (rows : List R) (start : ℕ) (es : List Recorded) (found : Option ℕ) → All P rows → All P (rows_from n move rows start found es)
rows_from-each n move P keeps rows start [] found all = All-nil P
rows_from-each {R} n move P keeps rows start (e ∷ es) found all = go (found_at n rows start e) looked_up (λ b. rows_from-each n move P keeps rows start es b all)
  where
    looked_up : (r : R) → found_at n rows start e ≡ Some r → P r
    looked_up r = by (nat_le start e.wasm)
      where
        by : (b : Bool) → (if b then last_at n rows (e.wasm - start) else None) ≡ Some r → P r
        by true h = last_at-among n P rows (e.wasm - start) r all h
        by false h = absurd (cc)

    go : (o : Option R) → ((r : R) → o ≡ Some r → P r) → ((b : Option ℕ) → All P (rows_from n move rows start b es)) → All P (with_found n move (λ b. rows_from n move rows start b es) found e.native o)
    go None here more = more found
    go (Some r) here more = inner (is_repeated found (n r))
      where
        inner : (b : Bool) → All P (if b then rows_from n move rows start found es else move (placed_at found e.native) r ∷ rows_from n move rows start (Some (n r)) es)
        inner true = more found
        inner false = All-cons P _ _ (keeps (placed_at found e.native) r (here r refl)) (more (Some (n r)))

-- rows that are seen in another way
pub rows_from-map : {R S : Type 0} (n : S → ℕ) (move : ℕ → S → S) (shift : ℕ → R → R) (f : R → S) → ((k : ℕ) (r : R) → f (shift k r) ≡ move k (f r)) → (rows : List R) (start : ℕ) (es : List Recorded) (found : Option ℕ)
    → map f (rows_from (λ r. n (f r)) shift rows start found es) ≡ rows_from n move (map f rows) start found es
rows_from-map n move shift f moves rows start [] found = refl
rows_from-map {R} {S} n move shift f moves rows start (e ∷ es) found =
    rw (last_at-map n f rows (e.wasm - start)) (go (nat_le start e.wasm) (last_at (λ r. n (f r)) rows (e.wasm - start)) (λ b. rows_from-map n move shift f moves rows start es b))
  where
    one : (o : Option R) → ((b : Option ℕ) → map f (rows_from (λ r. n (f r)) shift rows start b es) ≡ rows_from n move (map f rows) start b es)
        → map f (with_found (λ r. n (f r)) shift (λ b. rows_from (λ r. n (f r)) shift rows start b es) found e.native o) ≡ with_found n move (λ b. rows_from n move (map f rows) start b es) found e.native (option_map f o)
    one None more = more found
    one (Some r) more = inner (is_repeated found (n (f r)))
      where
        inner : (b : Bool) → map f (if b then rows_from (λ r. n (f r)) shift rows start found es else shift (placed_at found e.native) r ∷ rows_from (λ r. n (f r)) shift rows start (Some (n (f r))) es) ≡ (if b then rows_from n move (map f rows) start found es else move (placed_at found e.native) (f r) ∷ rows_from n move (map f rows) start (Some (n (f r))) es)
        inner true = more found
        inner false = rw (moves (placed_at found e.native) r, more (Some (n (f r)))) refl

    go : (b : Bool) (o : Option R) → ((b : Option ℕ) → map f (rows_from (λ r. n (f r)) shift rows start b es) ≡ rows_from n move (map f rows) start b es)
        → map f (with_found (λ r. n (f r)) shift (λ b. rows_from (λ r. n (f r)) shift rows start b es) found e.native (if b then o else None)) ≡ with_found n move (λ b. rows_from n move (map f rows) start b es) found e.native (if b then option_map f o else None)
    go true o more = one o more
    go false o more = one None more

-- no rows give none
pub rows_from-none : {R : Type 0} (n : R → ℕ) (move : ℕ → R → R) (start : ℕ) (es : List Recorded) (found : Option ℕ) → rows_from n move [] start found es ≡ []
rows_from-none n move start [] found = refl
rows_from-none {R} n move start (e ∷ es) found = go (nat_le start e.wasm) (rows_from-none n move start es found)
  where
    go : (b : Bool) → rows_from n move [] start found es ≡ [] → with_found n move (λ b. rows_from n move [] start b es) found e.native (if b then None else None) ≡ []
    go true more = more
    go false more = more
