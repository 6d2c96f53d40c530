-- The index of texts: the place of one that is found, and a text more behind the others.
use Rattle.std.proofs.Common.{◌≡◌, ◌≢◌, ℕ, ◌+◌, ◌<◌, ◌≤◌, refl, sym, ap, subst, ◌∙◌, arith, List, [], ◌∷◌, ◌++◌, length, get_or, Bool, true, false, ltb, eqb, cond, Option, Some, None}
use Rattle.std.specs.Prelude.{if◌then◌else◌, not, IfSome}
use Rattle.std.specs.List.{AllPairs, position, position_or_len}
use Rattle.std.specs.Str.{bytes_eq}
use Rattle.std.specs.Cmp.{both_ways}
use Rattle.std.specs.Cmp.Lexicographic.{bytes_decides}
use Rattle.std.proofs.lemmas.Bool.{eq-eqb, eqb-false, eqb-true, le-ltb, lt-ltb, ltb-false}
use Rattle.std.proofs.lemmas.List.{get_or_append_left, length-append}
use Rattle.std.proofs.lemmas.List.Folds.{position_or_len_push}
use Rattle.std.proofs.lemmas.List.Sums.{position_or_len_is, prefix_len-le-length}
use Rattle.dwc_texts.specs.TextIndexes.{ArePlaces, place_behind, text_number}

-- the place of the first that passes, by how many stand in front of it and by the number of all
abbrev place : ℕ → ℕ → Option ℕ
place k n = cond (ltb k n) (Some k) None

place-passed : (k n : ℕ) → k ≤ n → place (cond (eqb k n) (n + 1) k) (n + 1) ≡ place k n
place-passed k n most = go (eqb k n) refl
  where
    go : (b : Bool) → eqb k n ≡ b → place (cond b (n + 1) k) (n + 1) ≡ place k n
    go true is =
        let same = eqb-true k n is in
        let over : ltb (n + 1) (n + 1) ≡ false = le-ltb (n + 1) (n + 1) (omega arith) in
        let none : ltb k n ≡ false = le-ltb k n (omega (arith, same)) in
        ap (λ b. cond b (Some (n + 1)) None) over ∙ sym (ap (λ b. cond b (Some k) None) none)
    go false is =
        let apart = eqb-false k n is in
        let within : ltb k (n + 1) ≡ true = lt-ltb k (n + 1) (omega (arith, most)) in
        let before : ltb k n ≡ true = lt-ltb k n (omega (arith, most, apart)) in
        ap (λ b. cond b (Some k) None) (within ∙ sym before)

place-here : (k n : ℕ) → k ≤ n → place k n ≡ None → place (cond (eqb k n) (n + 0) k) (n + 1) ≡ Some n
place-here k n most none =
    let same : k ≡ n = go (ltb k n) refl none in
    let last : cond (eqb k n) (n + 0) k ≡ n = ap (λ b. cond b (n + 0) k) (eq-eqb k n same) ∙ omega arith in
    ap (λ j. place j (n + 1)) last ∙ ap (λ b. cond b (Some n) None) (lt-ltb n (n + 1) (omega arith))
  where
    go : (b : Bool) → ltb k n ≡ b → cond {A = Option ℕ} b (Some k) None ≡ None → k ≡ n
    go true is found = absurd (cc)
    go false is found = let past = ltb-false k n is in omega (arith, past, most)

module _ {X : Type 0} (p : X → Bool) (xs : List X) (y : X) where
  most : position_or_len p xs ≤ length xs
  most = prefix_len-le-length (λ x. not (p x)) xs

  by_place : (b : Bool) → p y ≡ b → position p (xs ++ y ∷ []) ≡ place (cond (eqb (position_or_len p xs) (length xs)) (length xs + cond b 0 1) (position_or_len p xs)) (length xs + 1)
  by_place b is = λ i. place ((position_or_len_push p xs y ∙ ap (λ c. cond (eqb (position_or_len p xs) (length xs)) (length xs + cond c 0 1) (position_or_len p xs)) is) i) (length-append xs (y ∷ []) i)

  -- the place among items with one more behind them
  pub position-passed : p y ≡ false → position p (xs ++ y ∷ []) ≡ position p xs
  position-passed passed = by_place false passed ∙ place-passed (position_or_len p xs) (length xs) most

  pub position-behind : p y ≡ true → position p xs ≡ None → position p (xs ++ y ∷ []) ≡ Some (length xs)
  position-behind passes none = by_place true passes ∙ place-here (position_or_len p xs) (length xs) most none

bytes-apart : (s t : List ℕ) → s ≢ t → bytes_eq s t ≡ false
bytes-apart s t apart = go (bytes_eq s t) refl
  where
    go : (b : Bool) → bytes_eq s t ≡ b → b ≡ false
    go true is = absurd (apart ((bytes_decides s t).0 is))
    go false is = refl

bytes-turned : (s t : List ℕ) (b : Bool) → bytes_eq s t ≡ b → bytes_eq t s ≡ b
bytes-turned s t b is = both_ways (bytes_eq t s) (bytes_eq s t) (λ e. (bytes_decides s t).1 (sym ((bytes_decides t s).0 e))) (λ e. (bytes_decides t s).1 (sym ((bytes_decides s t).0 e))) ∙ is

-- a text that stands at a place stands at no other
pub only-place : (ts : List (List ℕ)) (t : List ℕ) (i : ℕ) → AllPairs (λ r s. r ≢ s) ts → i < length ts → bytes_eq (get_or ts i []) t ≡ true → position (bytes_eq t) ts ≡ Some i
only-place ts t i distinct within is =
    let same : get_or ts i [] ≡ t = (bytes_decides (get_or ts i []) t).0 is in
    let here : position_or_len (bytes_eq t) ts ≡ i = position_or_len_is (bytes_eq t) ts i [] (omega (arith, within)) (λ k before. bytes-apart t (get_or ts k []) (λ e. distinct k i [] before within (sym e ∙ sym same))) (λ inside. bytes-turned (get_or ts i []) t true is) in
    ap (λ k. place k (length ts)) here ∙ ap (λ b. cond b (Some i) None) (lt-ltb i (length ts) within)

-- Where a text stands is the same with one more text behind the others.
behind-kept : (others : List ℕ → Option ℕ) (ts : List (List ℕ)) (t s : List ℕ) (i : ℕ) → i < length ts → place_behind others (ts ++ t ∷ []) s (Some i) ≡ place_behind others ts s (Some i)
behind-kept others ts t s i within = ap (λ r. if bytes_eq r s then Some i else others s) (get_or_append_left ts (t ∷ []) [] i within)

-- what is kept where a text is the first of its number
module _ (firsts new : ℕ → Option ℕ) (others : List ℕ → Option ℕ) (ts : List (List ℕ)) (t : List ℕ) (places : ArePlaces firsts others ts) (unknown : firsts (text_number t) ≡ None) (noted : (n : ℕ) → new n ≡ (if eqb (text_number t) n then Some (length ts) else firsts n)) where
  first-same : (s : List ℕ) → firsts (text_number s) ≡ None → place_behind others (ts ++ t ∷ []) s (Some (length ts)) ≡ position (bytes_eq s) (ts ++ t ∷ [])
  first-same s none =
      let absent : position (bytes_eq s) ts ≡ None = sym (places.found s) ∙ ap (place_behind others ts s) none in
      ap (λ r. if bytes_eq r s then Some (length ts) else others s) (last ts) ∙ go (bytes_eq t s) refl absent
    where
      last : (rs : List (List ℕ)) → get_or (rs ++ t ∷ []) (length rs) [] ≡ t
      last [] = refl
      last (r ∷ rs) = last rs

      go : (b : Bool) → bytes_eq t s ≡ b → position (bytes_eq s) ts ≡ None → (if b then Some (length ts) else others s) ≡ position (bytes_eq s) (ts ++ t ∷ [])
      go true is absent = sym (position-behind (bytes_eq s) ts t (bytes-turned t s true is) absent)
      go false is absent = places.first s none ∙ sym absent ∙ sym (position-passed (bytes_eq s) ts t (bytes-turned t s false is))

  first-other : (s : List ℕ) → eqb (text_number t) (text_number s) ≡ false → (o : Option ℕ) → firsts (text_number s) ≡ o → place_behind others (ts ++ t ∷ []) s o ≡ position (bytes_eq s) (ts ++ t ∷ [])
  first-other s apart o is = kept o is ∙ ap (place_behind others ts s) (sym is) ∙ places.found s ∙ sym (position-passed (bytes_eq s) ts t (bytes-apart s t (λ e. eqb-false (text_number t) (text_number s) apart (ap text_number (sym e)))))
    where
      kept : (o : Option ℕ) → firsts (text_number s) ≡ o → place_behind others (ts ++ t ∷ []) s o ≡ place_behind others ts s o
      kept None is = refl
      kept (Some i) is = behind-kept others ts t s i (subst (λ o. IfSome o (λ j. j < length ts)) is (places.inside (text_number s)))

  pub with-first : ArePlaces new others (ts ++ t ∷ [])
  with-first = record {
    found = λ s. ap (place_behind others (ts ++ t ∷ []) s) (noted (text_number s)) ∙ found s (eqb (text_number t) (text_number s)) refl;
    first = λ s none. first s (eqb (text_number t) (text_number s)) refl (sym (noted (text_number s)) ∙ none);
    inside = λ n. subst (λ o. IfSome o (λ i. i < length (ts ++ t ∷ []))) (sym (noted n)) (inside n (eqb (text_number t) n));
  }
    where
      found : (s : List ℕ) (b : Bool) → eqb (text_number t) (text_number s) ≡ b → place_behind others (ts ++ t ∷ []) s (if b then Some (length ts) else firsts (text_number s)) ≡ position (bytes_eq s) (ts ++ t ∷ [])
      found s true is = first-same s (ap firsts (sym (eqb-true (text_number t) (text_number s) is)) ∙ unknown)
      found s false is = first-other s is (firsts (text_number s)) refl

      first : (s : List ℕ) (b : Bool) → eqb (text_number t) (text_number s) ≡ b → (if b then Some (length ts) else firsts (text_number s)) ≡ None → others s ≡ None
      first s true is none = absurd (cc)
      first s false is none = places.first s none

      more : (o : Option ℕ) → IfSome o (λ i. i < length ts) → IfSome o (λ i. i < length (ts ++ t ∷ []))
      more None _ = _
      more (Some i) within = let longer = length-append ts (t ∷ []) in omega (arith, within, longer)

      inside : (n : ℕ) (b : Bool) → IfSome (if b then Some (length ts) else firsts n) (λ i. i < length (ts ++ t ∷ []))
      inside n true = let longer = length-append ts (t ∷ []) in omega (arith, longer)
      inside n false = more (firsts n) (places.inside n)

-- what is kept where another text of its number stands before it
module _ (firsts : ℕ → Option ℕ) (others new : List ℕ → Option ℕ) (ts : List (List ℕ)) (t : List ℕ) (places : ArePlaces firsts others ts) (absent : position (bytes_eq t) ts ≡ None) (n : ℕ) (known : firsts (text_number t) ≡ Some n) (noted : (s : List ℕ) → new s ≡ (if bytes_eq t s then Some (length ts) else others s)) where
  other-same : (s : List ℕ) → t ≡ s → (o : Option ℕ) → firsts (text_number s) ≡ o → place_behind new (ts ++ t ∷ []) s o ≡ position (bytes_eq s) (ts ++ t ∷ [])
  other-same s same None is = let some : Some n ≡ None = sym known ∙ ap (λ r. firsts (text_number r)) same ∙ is in absurd (cc)
  other-same s same (Some i) is =
      let gone : position (bytes_eq s) ts ≡ None = ap (λ r. position (bytes_eq r) ts) (sym same) ∙ absent in
      let within = subst (λ o. IfSome o (λ j. j < length ts)) is (places.inside (text_number s)) in
      behind-kept new ts t s i within ∙ go (bytes_eq (get_or ts i []) s) (ap (place_behind others ts s) (sym is) ∙ places.found s ∙ gone) ∙ sym (position-behind (bytes_eq s) ts t ((bytes_decides s t).1 (sym same)) gone)
    where
      go : (b : Bool) → (if b then Some i else others s) ≡ None → (if b then Some i else new s) ≡ Some (length ts)
      go true is = absurd (cc)
      go false is = noted s ∙ ap (λ b. if b then Some (length ts) else others s) ((bytes_decides t s).1 same)

  other-apart : (s : List ℕ) → bytes_eq t s ≡ false → (o : Option ℕ) → firsts (text_number s) ≡ o → place_behind new (ts ++ t ∷ []) s o ≡ position (bytes_eq s) (ts ++ t ∷ [])
  other-apart s apart o is = kept o is ∙ ap (place_behind others ts s) (sym is) ∙ places.found s ∙ sym (position-passed (bytes_eq s) ts t (bytes-turned t s false apart))
    where
      old : new s ≡ others s
      old = noted s ∙ ap (λ b. if b then Some (length ts) else others s) apart

      kept : (o : Option ℕ) → firsts (text_number s) ≡ o → place_behind new (ts ++ t ∷ []) s o ≡ place_behind others ts s o
      kept None is = refl
      kept (Some i) is = behind-kept new ts t s i (subst (λ o. IfSome o (λ j. j < length ts)) is (places.inside (text_number s))) ∙ ap (λ p. if bytes_eq (get_or ts i []) s then Some i else p) old

  pub with-other : ArePlaces firsts new (ts ++ t ∷ [])
  with-other = record {
    found = λ s. found s (bytes_eq t s) refl;
    first = λ s none. first s (bytes_eq t s) refl none;
    inside = λ m. more (firsts m) (places.inside m);
  }
    where
      found : (s : List ℕ) (b : Bool) → bytes_eq t s ≡ b → place_behind new (ts ++ t ∷ []) s (firsts (text_number s)) ≡ position (bytes_eq s) (ts ++ t ∷ [])
      found s true is = other-same s ((bytes_decides t s).0 is) (firsts (text_number s)) refl
      found s false is = other-apart s is (firsts (text_number s)) refl

      first : (s : List ℕ) (b : Bool) → bytes_eq t s ≡ b → firsts (text_number s) ≡ None → new s ≡ None
      first s true is none = let some : Some n ≡ None = sym known ∙ ap (λ r. firsts (text_number r)) ((bytes_decides t s).0 is) ∙ none in absurd (cc)
      first s false is none = noted s ∙ ap (λ b. if b then Some (length ts) else others s) is ∙ places.first s none

      more : (o : Option ℕ) → IfSome o (λ i. i < length ts) → IfSome o (λ i. i < length (ts ++ t ∷ []))
      more None _ = _
      more (Some i) within = let longer = length-append ts (t ∷ []) in omega (arith, within, longer)

-- A text more is noted by its number where that is new, and else by its bytes.
pub noted-first : (firsts new : ℕ → Option ℕ) (others : List ℕ → Option ℕ) (ts : List (List ℕ)) (t : List ℕ) (number : ℕ) → ArePlaces firsts others ts → number ≡ text_number t → firsts (text_number t) ≡ None → ((n : ℕ) → new n ≡ (if eqb number n then Some (length ts) else firsts n)) → ArePlaces new others (ts ++ t ∷ [])
noted-first firsts new others ts t number places is unknown noted = with-first firsts new others ts t places unknown (λ n. noted n ∙ ap (λ m. if eqb m n then Some (length ts) else firsts n) is)

-- Places are kept where what leads to them is.
pub same-places : (firsts now : ℕ → Option ℕ) (others new : List ℕ → Option ℕ) (ts : List (List ℕ)) → ((n : ℕ) → now n ≡ firsts n) → ((t : List ℕ) → new t ≡ others t) → ArePlaces firsts others ts → ArePlaces now new ts
same-places firsts now others new ts by_number by_bytes places = subst (λ f. ArePlaces f new ts) (λ i n. sym (by_number n) i) (subst (λ f. ArePlaces firsts f ts) (λ i t. sym (by_bytes t) i) places)
