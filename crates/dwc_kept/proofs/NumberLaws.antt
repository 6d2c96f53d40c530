-- Numbers of entries by their offsets, and the lists of parts.
use Rattle.std.proofs.Common.{◌≡◌, ℕ, zero, suc, ◌+◌, ◌<◌, ◌≤◌, ◌⊎◌, ◌≢◌, List, [], ◌∷◌, length, get_or, drop, refl, ap, sym, ◌∙◌, inl, inr, arith, Bool, true, false, cond, Some, None}
use Rattle.std.specs.Prelude.{◌==◌, not}
use Rattle.std.specs.List.{position_from}
use Rattle.std.proofs.lemmas.Bool.{eqb-true, eqb-false, eq-eqb, ne_eqb, and_parts, not-true, cases_order}
use Rattle.dwc_kept.specs.declared.graph_entry.GraphEntry.{GraphEntry}
use Rattle.dwc_kept.specs.GraphEntries.{no_entry, entry, targets_start, is_part_number, IsLink, AreRising, AreLinked, number_at, parts_below}

-- ---- the first place at which a test passes

module _ {A : Type 0} (t : A → Bool) where
  from-found : (i j : ℕ) (d : A) (xs : List A) → position_from t i xs ≡ Some j → (k : ℕ) × (j ≡ i + k) × (k < length xs) × (t (get_or xs k d) ≡ true)
  from-found i j d [] h = absurd (cc)
  from-found i j d (x ∷ xs) h = go (t x) refl h (from-found (i + 1) j d xs)
    where
      go : (b : Bool) → t x ≡ b → cond b (Some i) (position_from t (i + 1) xs) ≡ Some j → (position_from t (i + 1) xs ≡ Some j → (k : ℕ) × (j ≡ i + 1 + k) × (k < length xs) × (t (get_or xs k d) ≡ true)) → (k : ℕ) × (j ≡ i + k) × (k < suc (length xs)) × (t (get_or (x ∷ xs) k d) ≡ true)
      go true is e others = let same : i ≡ j = cc in (0, omega (arith, same), omega arith, is)
      go false is e others = let found = others e in (suc found.0, omega (arith, found.1), omega (arith, found.2), found.3)

  from-some : (i j k : ℕ) (d : A) (xs : List A) → j ≡ i + k → k < length xs → t (get_or xs k d) ≡ true → ((m : ℕ) → m < k → t (get_or xs m d) ≡ false) → position_from t i xs ≡ Some j
  from-some i j k d [] e less is before = absurd (omega (arith, less))
  from-some i j zero d (x ∷ xs) e less is before = ap (λ b. cond b (Some i) (position_from t (i + 1) xs)) is ∙ ap Some (omega (arith, e))
  from-some i j (suc k) d (x ∷ xs) e less is before = ap (λ b. cond b (Some i) (position_from t (i + 1) xs)) (before 0 (omega arith)) ∙ from-some (i + 1) j k d xs (omega (arith, e)) (omega (arith, less)) is (λ m a. before (suc m) (omega (arith, a)))

  pub from-none : (i : ℕ) (d : A) (xs : List A) → ((m : ℕ) → m < length xs → t (get_or xs m d) ≡ false) → position_from t i xs ≡ None
  from-none i d [] none = refl
  from-none i d (x ∷ xs) none = ap (λ b. cond b (Some i) (position_from t (i + 1) xs)) (none 0 (omega arith)) ∙ from-none (i + 1) d xs (λ m a. none (suc m) (omega (arith, a)))

-- ---- numbers by offsets

pub number-found : (es : List GraphEntry) (offset j : ℕ) → number_at es offset ≡ Some j → (j < length es) × ((entry es j).offset ≡ offset)
number-found es offset j h =
    let found = from-found (λ e. e.offset == offset) 0 j no_entry es h in
    let same : found.0 ≡ j = omega (arith, found.1) in
    (omega (arith, same, found.2), ap (λ k. (entry es k).offset) (sym same) ∙ eqb-true _ offset found.3)

module _ (es : List GraphEntry) (rising : AreRising es) where
  pub number-low : (i : ℕ) → i < length es → i ≤ (entry es i).offset
  number-low zero less = omega arith
  number-low (suc i) less = omega (arith, number-low i (omega (arith, less)), rising i (suc i) (omega arith) less)

  pub number-some : (offset i : ℕ) → i < length es → (entry es i).offset ≡ offset → number_at es offset ≡ Some i
  number-some offset i less is = from-some (λ e. e.offset == offset) 0 i i no_entry es (omega arith) less (eq-eqb _ offset is) (λ m a. ne_eqb (entry es m).offset offset (λ e. absurd (omega (arith, e, is, rising m i a less))))

-- ---- parts

module _ (es : List GraphEntry) (linked : AreLinked es) where
  -- parts stand behind their entry
  pub part-behind : (p c : ℕ) → c < length es → is_part_number es p c ≡ true → p < c
  part-behind p c less h =
      let parts = and_parts ((entry es c).parent == p) _ h in
      let is : (entry es c).parent ≡ p = eqb-true _ p parts.0 in
      let differs : p ≢ c = eqb-false p c (not-true _ ((and_parts (not (p == c)) _ parts.1).0)) in
      omega (arith, is, differs, linked.parents c less)

  no-parts : (p c : ℕ) → c ≤ suc p → c ≤ length es → parts_below es p c ≡ []
  no-parts p zero low less = refl
  no-parts p (suc c) low less = go (is_part_number es p c) refl (no-parts p c (omega (arith, low)) (omega (arith, less)))
    where
      go : (b : Bool) → is_part_number es p c ≡ b → parts_below es p c ≡ [] → cond b (c ∷ parts_below es p c) (parts_below es p c) ≡ []
      go true is none = absurd (omega (arith, low, part-behind p c (omega (arith, less)) is))
      go false is none = none

  -- where no part stands between two numbers
  parts-same : (p low b : ℕ) → low ≤ b → ((c : ℕ) → low ≤ c → c < b → is_part_number es p c ≡ false) → parts_below es p b ≡ parts_below es p low
  parts-same p low zero le none = let e : zero ≡ low = omega (arith, le) in ap (parts_below es p) e
  parts-same p low (suc b) le none = go (cases_order low (suc b)) (λ l. parts-same p low b l (λ c a h. none c a (omega (arith, h))))
    where
      go : (low ≡ suc b) ⊎ ((low < suc b) ⊎ (suc b < low)) → (low ≤ b → parts_below es p b ≡ parts_below es p low) → parts_below es p (suc b) ≡ parts_below es p low
      go (inl e) others = ap (parts_below es p) (sym e)
      go (inr (inl less)) others = ap (λ t. cond t (b ∷ parts_below es p b) (parts_below es p b)) (none b (omega (arith, less)) (omega arith)) ∙ others (omega (arith, less))
      go (inr (inr above)) others = absurd (omega (arith, above, le))

  pub parts-linked : (p bound link : ℕ) → IsLink es p bound link → parts_below es p bound ≡ parts_below es p (suc link)
  parts-linked p bound link is = parts-same p (suc link) bound (omega (arith, is.high)) (λ c a l. is.last c (omega (arith, a)) l)

  pub parts-end : (p : ℕ) → p < length es → parts_below es p (suc p) ≡ []
  parts-end p less = no-parts p (suc p) (omega arith) (omega (arith, less))

  pub parts-first : (p c : ℕ) → is_part_number es p c ≡ true → parts_below es p (suc c) ≡ c ∷ parts_below es p c
  parts-first p c is = ap (λ t. cond t (c ∷ parts_below es p c) (parts_below es p c)) is

-- ---- targets

pub targets_start-at : (es : List GraphEntry) (i size : ℕ) → i < length es → targets_start (drop i es) size ≡ (entry es i).first_target
targets_start-at [] i size less = absurd (omega (arith, less))
targets_start-at (e ∷ es) zero size less = refl
targets_start-at (e ∷ es) (suc i) size less = targets_start-at es i size (omega (arith, less))

pub targets_start-past : (es : List GraphEntry) (i size : ℕ) → length es ≤ i → targets_start (drop i es) size ≡ size
targets_start-past [] zero size past = refl
targets_start-past [] (suc i) size past = refl
targets_start-past (e ∷ es) zero size past = absurd (omega (arith, past))
targets_start-past (e ∷ es) (suc i) size past = targets_start-past es i size (omega (arith, past))
