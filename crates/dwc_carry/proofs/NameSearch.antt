-- Names by numbers that rise, as a search by halves finds them.
use Rattle.std.proofs.Common.{subst, inl, inr, ◌⊎◌, ◌≡◌, ℕ, zero, suc, ◌<◌, ◌≤◌, refl, sym, ap, ◌∙◌, arith, List, [], ◌∷◌, map, length, get_or, nat_cmp, Bool, true, false, None}
use Rattle.std.specs.Prelude.{⊤, ◌==◌, ◌&&◌, nat_lt, slice_get, Option, option_and_then}
use Rattle.std.specs.Borrow.{Bor}
use Rattle.std.specs.declared.cmp.Ordering.{Ordering}
use Rattle.std.specs.declared.cmp.Ordering.TheVariants.{Less, Equal, Greater}
use Rattle.std.specs.Ordering.{MatchOrdering, ordering_then}
use Rattle.std.specs.Cmp.{ranks}
use Rattle.std.specs.List.Sorted.{IsStrictlySortedBy, IsPartitionPoint, IsPartitionedBy}
use Rattle.std.proofs.lemmas.Bool.{true≢false, and_from, and_parts, cases_lt, eq-eqb, eqb-true, lt-ltb, ltb-true, ltb-false, false_from_ne_true, or_cases, or_left, or_right}
use Rattle.std.proofs.lemmas.List.{get_or-map, length-map}
use Rattle.std.proofs.lemmas.Map.Keys.{Less-from_sorted, below_from_sorted}
use Rattle.dwc_base.specs.TranslationNames.{function_name_view, local_name_view}
use Rattle.dwc_base.specs.Reading.{coded}
use Rattle.dwc_base.specs.SortedEntries.{pair_cmp}
use Rattle.dwc_carry.specs.SimulatedNames.{is_before, name_among}

-- ---- the first of some things

-- A look-up that answers by the first thing at a place, in a list where none behind the first that is not before that place is at it.
module _ {X A : Type 0} (before here : X → Bool) (look : List X → Option A) (none : look [] ≡ None) (skips : (x : X) (xs : List X) → here x ≡ false → look (x ∷ xs) ≡ look xs) (finds : (x : X) (xs : List X) → here x ≡ true → look (x ∷ xs) ≡ look (x ∷ [])) where
  none-here : (xs : List X) → ((k : ℕ) (d : X) → k < length xs → here (get_or xs k d) ≡ false) → look xs ≡ None
  none-here [] other = none
  none-here (x ∷ xs) other = skips x xs (other 0 x (omega arith)) ∙ none-here xs (λ k d less. other (suc k) d (omega arith))

  -- A search by halves for the first thing that is not before the place finds what the look-up answers.
  pub first-found : (xs : List X) (place : ℕ) → place ≤ length xs → ((x : X) → before x ≡ true → here x ≡ false)
      → ((i j : ℕ) (d : X) → i < j → j < length xs → before (get_or xs i d) ≡ false → here (get_or xs j d) ≡ false)
      → IsPartitionPoint (λ x. before x ≡ true) (λ x. before x ≡ false) xs place → option_and_then (λ x. look (x ∷ [])) (slice_get xs place) ≡ look xs
  first-found [] zero inside apart behind at = sym none
  first-found [] (suc place) inside apart behind at = absurd (omega arith)
  first-found (x ∷ xs) zero inside apart behind at = go (here x) refl
    where
      go : (b : Bool) → here x ≡ b → look (x ∷ []) ≡ look (x ∷ xs)
      go true same = sym (finds x xs same)
      go false other =
          let rest = none-here xs (λ k d less. behind 0 (suc k) d (omega arith) (omega arith) (at.1 0 d (omega arith) (omega arith))) in
          skips x [] other ∙ none ∙ sym (skips x xs other ∙ rest)
  first-found (x ∷ xs) (suc place) inside apart behind at =
      let rest = first-found xs place (omega arith) apart (λ i j d less short. behind (suc i) (suc j) d (omega arith) (omega arith)) (λ k d low high. at.0 (suc k) d (omega arith) (omega arith), λ k d low high. at.1 (suc k) d (omega arith) (omega arith)) in
      rest ∙ sym (skips x xs (apart x (at.0 0 x (omega arith) (omega arith))))

-- ---- names of functions

abbrev pub Named : Type 0
Named = ℕ × Bor (List ℕ)

module _ (names : List Named) (rise : IsStrictlySortedBy nat_cmp (map (λ e. e.0) (map function_name_view names))) (index : ℕ) where
  functions-rise : (i j : ℕ) (d : Named) → i < j → j < length names → (get_or names i d).0 < (get_or names j d).0
  functions-rise i j d less short =
      let key = λ (e : ℕ × List ℕ). e.0 in
      let long = length-map names function_name_view in
      let keys = length-map (map function_name_view names) key in
      let at = λ (k : ℕ) (inside : k < length names). get_or-map key (map function_name_view names) k (function_name_view d) d.0 (omega (arith, inside, long)) ∙ ap key (get_or-map function_name_view names k d (function_name_view d) inside) in
      omega (arith, below_from_sorted (map key (map function_name_view names)) i j d.0 rise less (omega (arith, short, long, keys)), at i (omega (arith, less, short)), at j short)

  pub functions-split : IsPartitionedBy (λ (e : Named). nat_lt e.0 index) names
  functions-split i j d le short before = by (cases_lt i j)
    where
      by : (i < j) ⊎ (j ≤ i) → nat_lt (get_or names i d).0 index ≡ true
      by (inl less) = lt-ltb _ index (omega (arith, functions-rise i j d less short, ltb-true (get_or names j d).0 index before))
      by (inr more) = let same : i ≡ j = omega arith in ap (λ k. nat_lt (get_or names k d).0 index) same ∙ before

  pub function-found : (place : ℕ) → place ≤ length names → IsPartitionPoint (λ e. nat_lt e.0 index ≡ true) (λ e. nat_lt e.0 index ≡ false) names place
      → option_and_then (λ (e : Named). coded (function_name_view e ∷ []) index) (slice_get names place) ≡ coded (map function_name_view names) index
  function-found place inside at = first-found (λ (e : Named). nat_lt e.0 index) (λ e. e.0 == index) (λ es. coded (map function_name_view es) index) refl
      (λ e es other. rw other refl)
      (λ e es same. rw same refl)
      names place inside
      (λ e before. false_from_ne_true (e.0 == index) (λ same. omega (arith, ltb-true e.0 index before, eqb-true e.0 index same)))
      (λ i j d less short past. false_from_ne_true ((get_or names j d).0 == index) (λ same. omega (arith, functions-rise i j d less short, ltb-false (get_or names i d).0 index past, eqb-true (get_or names j d).0 index same)))
      at

-- ---- names of locals

-- the order of pairs, in words
abbrev IsBefore : ℕ × ℕ → ℕ × ℕ → Type 0
IsBefore a b = (a.0 < b.0) ⊎ ((a.0 ≡ b.0) × (a.1 < b.1))

less-numbers : (x y : ℕ) → nat_cmp x y ≡ Less → x < y
less-numbers x y less = subst (λ r. MatchOrdering r (x < y) (x ≡ y) (y < x)) less (ranks x y)

same-numbers : (x y : ℕ) → nat_cmp x y ≡ Equal → x ≡ y
same-numbers x y same = subst (λ r. MatchOrdering r (x < y) (x ≡ y) (y < x)) same (ranks x y)

pairs-before : (a b : ℕ × ℕ) → pair_cmp a b ≡ Less → IsBefore a b
pairs-before a b = go (nat_cmp a.0 b.0) refl
  where
    go : (r : Ordering) → nat_cmp a.0 b.0 ≡ r → ordering_then r (nat_cmp a.1 b.1) ≡ Less → IsBefore a b
    go Less first less = inl (less-numbers a.0 b.0 first)
    go Equal first less = inr (same-numbers a.0 b.0 first, less-numbers a.1 b.1 less)
    go Greater first less = absurd (subst (λ r. MatchOrdering r ⊥ ⊥ ⊤) less tt)

before-said : (index n : ℕ) (a : ℕ × ℕ) → is_before index n a ≡ true → IsBefore a (index, n)
before-said index n a before = go (or_cases (nat_lt a.0 index) ((a.0 == index) && nat_lt a.1 n) before)
  where
    go : (nat_lt a.0 index ≡ true) ⊎ (((a.0 == index) && nat_lt a.1 n) ≡ true) → IsBefore a (index, n)
    go (inl less) = inl (ltb-true a.0 index less)
    go (inr both) = let parts = and_parts (a.0 == index) (nat_lt a.1 n) both in inr (eqb-true a.0 index parts.0, ltb-true a.1 n parts.1)

before-shown : (index n : ℕ) (a : ℕ × ℕ) → IsBefore a (index, n) → is_before index n a ≡ true
before-shown index n a (inl less) = or_left (nat_lt a.0 index) ((a.0 == index) && nat_lt a.1 n) (lt-ltb a.0 index less)
before-shown index n a (inr both) = or_right (nat_lt a.0 index) ((a.0 == index) && nat_lt a.1 n) (and_from (a.0 == index) (nat_lt a.1 n) (eq-eqb a.0 index both.0) (lt-ltb a.1 n both.1))

before-on : (a b c : ℕ × ℕ) → IsBefore a b → IsBefore b c → IsBefore a c
before-on a b c (inl x) (inl y) = inl (omega (arith, x, y))
before-on a b c (inl x) (inr y) = inl (omega (arith, x, y.0))
before-on a b c (inr x) (inl y) = inl (omega (arith, x.0, y))
before-on a b c (inr x) (inr y) = inr (omega (arith, x.0, y.0), omega (arith, x.1, y.1))

-- whether a pair is that of a local
abbrev is_local : ℕ → ℕ → ℕ × ℕ → Bool
is_local index n a = (a.0 == index) && (a.1 == n)

before-apart : (index n : ℕ) (a : ℕ × ℕ) → is_before index n a ≡ true → is_local index n a ≡ true → ⊥
before-apart index n a before same = go (before-said index n a before) (and_parts (a.0 == index) (a.1 == n) same)
  where
    go : IsBefore a (index, n) → ((a.0 == index) ≡ true) × ((a.1 == n) ≡ true) → ⊥
    go (inl less) parts = omega (arith, less, eqb-true a.0 index parts.0)
    go (inr less) parts = omega (arith, less.1, eqb-true a.1 n parts.1)

-- what stands before the pair of a local stands before that local
local-behind : (index n : ℕ) (a b : ℕ × ℕ) → IsBefore a b → is_local index n b ≡ true → is_before index n a ≡ true
local-behind index n a b before same =
    let parts = and_parts (b.0 == index) (b.1 == n) same in
    let is : b ≡ (index, n) = λ i. (eqb-true b.0 index parts.0 i, eqb-true b.1 n parts.1 i) in
    before-shown index n a (subst (IsBefore a) is before)

abbrev pub NamedLocal : Type 0
NamedLocal = ℕ × ℕ × Bor (List ℕ)

module _ (names : List NamedLocal) (rise : IsStrictlySortedBy pair_cmp (map (λ e. e.0) (map local_name_view names))) (index n : ℕ) where
  locals-rise : (i j : ℕ) (d : NamedLocal) → i < j → j < length names → IsBefore ((get_or names i d).0, (get_or names i d).1) ((get_or names j d).0, (get_or names j d).1)
  locals-rise i j d less short =
      let key = λ (e : (ℕ × ℕ) × List ℕ). e.0 in
      let long = length-map names local_name_view in
      let keys = length-map (map local_name_view names) key in
      let at = λ (k : ℕ) (inside : k < length names). get_or-map key (map local_name_view names) k (local_name_view d) (d.0, d.1) (omega (arith, inside, long)) ∙ ap key (get_or-map local_name_view names k d (local_name_view d) inside) in
      let here = at i (omega (arith, less, short)) in
      let there = at j short in
      let keyed = map key (map local_name_view names) in
      let one = get_or keyed i (d.0, d.1) in
      let other = get_or names j d in
      pairs-before ((get_or names i d).0, (get_or names i d).1) (other.0, other.1)
      (sym (ap (λ a. pair_cmp a (other.0, other.1)) here) ∙ sym (ap (pair_cmp one) there) ∙ Less-from_sorted pair_cmp keyed i j (d.0, d.1) rise less (omega (arith, short, long, keys)))

  pub locals-split : IsPartitionedBy (λ (e : NamedLocal). is_before index n (e.0, e.1)) names
  locals-split i j d le short before = by (cases_lt i j)
    where
      by : (i < j) ⊎ (j ≤ i) → is_before index n ((get_or names i d).0, (get_or names i d).1) ≡ true
      by (inl less) = before-shown index n _ (before-on _ _ _ (locals-rise i j d less short) (before-said index n _ before))
      by (inr more) = let same : i ≡ j = omega arith in ap (λ k. is_before index n ((get_or names k d).0, (get_or names k d).1)) same ∙ before

  pub local-found : (place : ℕ) → place ≤ length names → IsPartitionPoint (λ e. is_before index n (e.0, e.1) ≡ true) (λ e. is_before index n (e.0, e.1) ≡ false) names place
      → option_and_then (λ (e : NamedLocal). name_among (local_name_view e ∷ []) index n) (slice_get names place) ≡ name_among (map local_name_view names) index n
  local-found place inside at = first-found (λ (e : NamedLocal). is_before index n (e.0, e.1)) (λ e. is_local index n (e.0, e.1)) (λ es. name_among (map local_name_view es) index n) refl
      (λ e es other. rw other refl)
      (λ e es same. rw same refl)
      names place inside
      (λ e before. false_from_ne_true (is_local index n (e.0, e.1)) (λ same. before-apart index n (e.0, e.1) before same))
      (λ i j d less short past. false_from_ne_true (is_local index n ((get_or names j d).0, (get_or names j d).1)) (λ same. true≢false (sym (local-behind index n _ _ (locals-rise i j d less short) same) ∙ past)))
      at
