-- Tables of the sources of stretches, and what keys that they lack say of a block.
use Rattle.std.proofs.Common.{◌≡◌, ℕ, zero, suc, ◌<◌, ◌≤◌, ◌+◌, ◌-◌, ◌*◌, ◌/◌, ◌%◌, ◌^◌, List, [], ◌∷◌, ◌++◌, length, get_or, true, false, refl, ap, sym, subst, ◌∙◌, arith, inl, inr}
use Rattle.std.specs.Prelude.{Bool, ◌⊎◌, ◌&&◌, ◌||◌, nat_le}
use Rattle.std.specs.List.{list_any}
use Rattle.std.specs.List.Sorted.{IsNonDecreasingBy, IsPermutation}
use Rattle.std.proofs.lemmas.Bool.{cases_lt, le-leb, lt-leb, lt-ltb, le-ltb}
use Rattle.std.proofs.lemmas.List.{get_or_append_left, get_or_push, length-append}
use Rattle.std.proofs.lemmas.List.Folds.{list_any_none}
use Rattle.std.proofs.lemmas.List.Elements.{All-from_get_or}
use Rattle.std.proofs.lemmas.List.Sorted.{list_any-IsPermutation}
use Rattle.std.proofs.lemmas.Nat.{div-add-mod', div-mul-add}
use Rattle.dwc_native.specs.ShownSources.{is_source_in}
use Rattle.dwc_addr.specs.declared.stretch.Stretch.{Stretch}
use Rattle.dwc_addr.specs.declared.stretch.SourceTable.{SourceTable}
use Rattle.dwc_addr.specs.PositionPlaces.{IsCountBelow}
use Rattle.dwc_addr.specs.Stretches.{source_key, source_keys, is_between, HaveKeys, AreTables, IsCapped}

none-of : (a b : Bool) → (a || b) ≡ false → (a ≡ false) × (b ≡ false)
none-of true b h = absurd (cc)
none-of false b h = (refl, h)

-- what no key of stretches passes, that of one of them does not pass
key-among : (test : ℕ → Bool) (block place k : ℕ) (ss : List Stretch) (d : Stretch) → k < length ss → list_any test (source_keys block place ss) ≡ false → test (source_key block (place + k) (get_or ss k d).source) ≡ false
key-among test block place k [] d inside none = absurd (omega (arith, inside))
key-among test block place zero (s ∷ ss) d inside none =
    let same : place + 0 ≡ place = omega arith in
    ap (λ n. test (source_key block n s.source)) same ∙ (none-of (test (source_key block place s.source)) (list_any test (source_keys block (suc place) ss)) none).0
key-among test block place (suc k) (s ∷ ss) d inside none =
    let same : place + suc k ≡ suc place + k = omega arith in
    ap (λ n. test (source_key block n (get_or ss k d).source)) same
    ∙ key-among test block (suc place) k ss d (omega (arith, inside)) (none-of (test (source_key block place s.source)) (list_any test (source_keys block (suc place) ss)) none).1

-- The keys in another order are those of the stretches.
pub keys-sorted : (ss : List Stretch) (block : ℕ) (keys : List ℕ) → ((k : ℕ) (d : Stretch) → k < length ss → (get_or ss k d).source < 2 ^ 32) → IsPermutation (source_keys block 0 ss) keys → HaveKeys ss block keys
keys-sorted ss block keys low moved = (low, among)
  where
    among : (test : ℕ → Bool) (k : ℕ) (d : Stretch) → k < length ss → list_any test keys ≡ false → test (source_key block k (get_or ss k d).source) ≡ false
    among test k d inside none =
        let same : 0 + k ≡ k = omega arith in
        ap (λ n. test (source_key block n (get_or ss k d).source)) (sym same)
        ∙ key-among test block 0 k ss d inside (list_any-IsPermutation test (source_keys block 0 ss) keys moved ∙ none)

-- A table more.
pub tables-pushed : (ss : List Stretch) (tables : List SourceTable) (t : SourceTable) → AreTables ss tables → HaveKeys ss t.block t.keys.items → AreTables ss (tables ++ (t ∷ []))
tables-pushed ss tables t h more i d inside = go (cases_lt i (length tables))
  where
    go : (i < length tables) ⊎ (length tables ≤ i) → HaveKeys ss (get_or (tables ++ (t ∷ [])) i d).block (get_or (tables ++ (t ∷ [])) i d).keys.items
    go (inl less) = subst (λ (x : SourceTable). HaveKeys ss x.block x.keys.items) (sym (get_or_append_left tables (t ∷ []) d i less)) (h i d less)
    go (inr past) = subst (λ (x : SourceTable). HaveKeys ss x.block x.keys.items) (sym (get_or_push tables t d i (omega (arith, past, inside, length-append tables (t ∷ []))))) more

-- No key is from one on up to another, where those that lie below the one are followed by none or by one that is not below the other.
pub none-between : (keys : List ℕ) (low high count : ℕ) → IsNonDecreasingBy (λ k. k) keys → IsCountBelow (λ k. k) keys low count → (count < length keys → high ≤ get_or keys count 0) → list_any (is_between low high) keys ≡ false
none-between keys low high count order h next = list_any_none (is_between low high) keys (All-from_get_or (λ key. is_between low high key ≡ false) keys 0 (λ i inside. go i inside (cases_lt i count)))
  where
    go : (i : ℕ) → i < length keys → (i < count) ⊎ (count ≤ i) → is_between low high (get_or keys i 0) ≡ false
    go i inside (inl below) = rw (lt-leb low (get_or keys i 0) (h.below i 0 below)) refl
    go i inside (inr behind) =
        rw (le-ltb (get_or keys i 0) high (omega (arith, next (omega (arith, inside, behind)), order count i 0 behind inside)))
        (both (nat_le low (get_or keys i 0)))
      where
        both : (b : Bool) → (b && false) ≡ false
        both true = refl
        both false = refl

-- ---- a block

-- what is not between two numbers
not-between : (low high key : ℕ) → is_between low high key ≡ false → (key < low) ⊎ (high ≤ key)
not-between low high key h = go (cases_lt key low) (cases_lt key high)
  where
    go : (key < low) ⊎ (low ≤ key) → (key < high) ⊎ (high ≤ key) → (key < low) ⊎ (high ≤ key)
    go (inl less) other = inl less
    go (inr from) (inr past) = inr past
    go (inr from) (inl to) = absurd (bad (rw (le-leb low key from, lt-ltb key high to) at h))
      where
        bad : ◌≡◌ {A = Bool} true false → ⊥
        bad e = cc

both-false : (b : Bool) → (b && false) ≡ false
both-false true = refl
both-false false = refl

-- a source inside an interval, and one outside of it
inside-of : (start end source : ℕ) → start ≤ source → source < end → is_source_in start end source ≡ true
inside-of start end source from to = rw (le-leb start source from, lt-ltb source end to) refl

outside-of : (start end source : ℕ) → (source < start) ⊎ (end ≤ source) → is_source_in start end source ≡ false
outside-of start end source (inl less) = rw (lt-leb start source less) refl
outside-of start end source (inr past) = rw (le-ltb source end past) (both-false (nat_le start source))

-- where none of a block's keys is of a source inside an interval
pub none-inside : (start end low high block source : ℕ) → source < 2 ^ 32 → IsCapped start low → IsCapped end high → is_between (block * 2 ^ 32 + low) (block * 2 ^ 32 + high) (block * 2 ^ 32 + source) ≡ false
    → is_source_in start end source ≡ false
none-inside start end low high block source small from to h = outside-of start end source (go from to (not-between _ _ _ h))
  where
    go : IsCapped start low → IsCapped end high → (block * 2 ^ 32 + source < block * 2 ^ 32 + low) ⊎ (block * 2 ^ 32 + high ≤ block * 2 ^ 32 + source) → (source < start) ⊎ (end ≤ source)
    go (inl same) other (inl less) = inl (omega (arith, same, less))
    go (inr same) other (inl less) = inl (omega (arith, same.0, same.1, less))
    go other (inl same) (inr past) = inr (omega (arith, same, past))
    go other (inr same) (inr past) = absurd (omega (arith, same.0, small, past))

-- where none is of a source outside of it
pub none-outside : (start end low high block source : ℕ) → source < 2 ^ 32 → IsCapped start low → IsCapped end high → is_between (block * 2 ^ 32) (block * 2 ^ 32 + low) (block * 2 ^ 32 + source) ≡ false
    → is_between (block * 2 ^ 32 + high) (block * 2 ^ 32 + 2 ^ 32) (block * 2 ^ 32 + source) ≡ false → is_source_in start end source ≡ true
none-outside start end low high block source small from to front behind =
    inside-of start end source (begins from (not-between _ _ _ front)) (ends to (not-between _ _ _ behind))
  where
    begins : IsCapped start low → (block * 2 ^ 32 + source < block * 2 ^ 32) ⊎ (block * 2 ^ 32 + low ≤ block * 2 ^ 32 + source) → start ≤ source
    begins other (inl less) = absurd (omega (arith, less))
    begins (inl same) (inr past) = omega (arith, same, past)
    begins (inr same) (inr past) = absurd (omega (arith, same.0, small, past))

    ends : IsCapped end high → (block * 2 ^ 32 + source < block * 2 ^ 32 + high) ⊎ (block * 2 ^ 32 + 2 ^ 32 ≤ block * 2 ^ 32 + source) → source < end
    ends other (inr past) = absurd (omega (arith, small, past))
    ends (inl same) (inl less) = omega (arith, same, less)
    ends (inr same) (inl less) = omega (arith, same.0, same.1, less)

-- The places of a block that begins at one have its number.
pub in-block : (size number k : ℕ) → number % size ≡ 0 → number ≤ k → k < number + size → k / size ≡ number / size
in-block size number k begins from to =
    let whole : number / size * size + number % size ≡ number = div-add-mod' number size in
    let parts : k ≡ number / size * size + (k - number) = omega (arith, whole, begins, from) in
    ap (λ n. n / size) parts ∙ div-mul-add (number / size) size (k - number) (omega (arith, from, to))

-- By the keys of a block no source of its stretches is inside an interval, or all are.
module _ (ss : List Stretch) (size k : ℕ) (d : Stretch) (keys : List ℕ) (block first start end low high : ℕ) (h : HaveKeys ss size keys) (inside : k < length ss) (at : k / size ≡ block) (begins : first ≡ block * 2 ^ 32 + 0) (from : IsCapped start low) (to : IsCapped end high) where
  tested : (l r m n : ℕ) → l ≡ m → r ≡ n → list_any (is_between l r) keys ≡ false → is_between m n (block * 2 ^ 32 + (get_or ss k d).source) ≡ false
  tested l r m n left right none =
      ap (λ b. is_between m n (b * 2 ^ 32 + (get_or ss k d).source)) (sym at)
      ∙ ap (λ x. is_between x n (k / size * 2 ^ 32 + (get_or ss k d).source)) (sym left)
      ∙ ap (λ x. is_between l x (k / size * 2 ^ 32 + (get_or ss k d).source)) (sym right)
      ∙ h.1 (is_between l r) k d inside none

  pub block-none : list_any (is_between (first + low) (first + high)) keys ≡ false → is_source_in start end (get_or ss k d).source ≡ false
  block-none none =
      none-inside start end low high block (get_or ss k d).source (h.0 k d inside) from to
      (tested (first + low) (first + high) (block * 2 ^ 32 + low) (block * 2 ^ 32 + high) (omega (arith, begins)) (omega (arith, begins)) none)

  pub block-all : list_any (is_between first (first + low)) keys ≡ false → list_any (is_between (first + high) (first + 2 ^ 32)) keys ≡ false → is_source_in start end (get_or ss k d).source ≡ true
  block-all front behind =
      none-outside start end low high block (get_or ss k d).source (h.0 k d inside) from to
      (tested first (first + low) (block * 2 ^ 32) (block * 2 ^ 32 + low) (omega (arith, begins)) (omega (arith, begins)) front)
      (tested (first + high) (first + 2 ^ 32) (block * 2 ^ 32 + high) (block * 2 ^ 32 + 2 ^ 32) (omega (arith, begins)) (omega (arith, begins)) behind)
