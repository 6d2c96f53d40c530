-- Lists of offsets: those that are marked, in rising order, and whether one is among them.
use Rattle.std.proofs.Common.{◌≡◌, ℕ, zero, suc, ◌+◌, ◌<◌, ◌≤◌, ◌⊎◌, List, [], ◌∷◌, ◌++◌, length, get_or, drop, take, length-take, map, refl, ap, sym, ◌∙◌, inl, inr, arith, append_assoc, Bool, true, false, cond}
use Rattle.std.specs.Prelude.{◌==◌, ◌&&◌, nat_le, nat_lt}
use Rattle.std.specs.List.{filter, list_any}
use Rattle.std.specs.List.Sorted.{IsNonDecreasingBy, IsPartitionPoint}
use Rattle.std.proofs.lemmas.Bool.{eq-eqb, eqb-true, ltb-true, ltb-false, le-leb, leb-true, false_from_ne_true, cases_order, cases_Bool}
use Rattle.std.proofs.lemmas.List.{drop_more, get_or_default, get_or-take}
use Rattle.dwc_kept.specs.declared.graph_entry.GraphEntry.{GraphEntry}
use Rattle.dwc_kept.specs.EntryGraphs.{marked_of}
use Rattle.dwc_kept.specs.GraphEntries.{no_entry, entry, nodes_seen, AreRising}
use Rattle.dwc_base.proofs.InLists.{at-in, in-at, any-in, in-any}
use Rattle.dwc_kept.proofs.MarkLaws.{same-truth}

pub nodes-offsets : (number : ℕ) (es : List GraphEntry) (ts : List ℕ) → map (λ e. e.offset) es ≡ map (λ n. n.offset) (nodes_seen number es ts)
nodes-offsets number [] ts = refl
nodes-offsets number (e ∷ es) ts = ap (λ os. e.offset ∷ os) (nodes-offsets (suc number) es ts)

-- ---- one entry more

marked-more : (es : List GraphEntry) (marks : List Bool) (i : ℕ) (b : Bool) → i < length es → i < length marks → get_or marks i false ≡ b
    → marked_of (map (λ e. e.offset) (drop i es)) (drop i marks) ≡ cond b ((entry es i).offset ∷ marked_of (map (λ e. e.offset) (drop (i + 1) es)) (drop (i + 1) marks)) (marked_of (map (λ e. e.offset) (drop (i + 1) es)) (drop (i + 1) marks))
marked-more es marks i b less inside is =
    ap (λ xs. marked_of (map (λ e. e.offset) xs) (drop i marks)) (drop_more es i no_entry less)
    ∙ ap (marked_of ((entry es i).offset ∷ map (λ e. e.offset) (drop (i + 1) es))) (drop_more marks i false inside)
    ∙ ap (λ m. cond m ((entry es i).offset ∷ marked_of (map (λ e. e.offset) (drop (i + 1) es)) (drop (i + 1) marks)) (marked_of (map (λ e. e.offset) (drop (i + 1) es)) (drop (i + 1) marks))) is

module _ (es : List GraphEntry) (marks : List Bool) (i : ℕ) (less : i < length es) (same : length marks ≡ length es) (out all : List ℕ) (so_far : out ++ marked_of (map (λ e. e.offset) (drop i es)) (drop i marks) ≡ all) where
  pub marked-adds : (more : List ℕ) → get_or marks i false ≡ true → more ≡ out ++ (entry es i).offset ∷ [] → more ++ marked_of (map (λ e. e.offset) (drop (i + 1) es)) (drop (i + 1) marks) ≡ all
  marked-adds more is added =
      ap (λ xs. xs ++ marked_of (map (λ e. e.offset) (drop (i + 1) es)) (drop (i + 1) marks)) added
      ∙ append_assoc out ((entry es i).offset ∷ []) (marked_of (map (λ e. e.offset) (drop (i + 1) es)) (drop (i + 1) marks))
      ∙ ap (λ xs. out ++ xs) (sym (marked-more es marks i true less (omega (arith, less, same)) is)) ∙ so_far

  pub marked-passes : (more : List ℕ) → get_or marks i false ≡ false → more ≡ out → more ++ marked_of (map (λ e. e.offset) (drop (i + 1) es)) (drop (i + 1) marks) ≡ all
  marked-passes more is kept =
      ap (λ xs. xs ++ marked_of (map (λ e. e.offset) (drop (i + 1) es)) (drop (i + 1) marks)) kept
      ∙ ap (λ xs. out ++ xs) (sym (marked-more es marks i false less (omega (arith, less, same)) is)) ∙ so_far

-- ---- their order

-- numbers do not fall, from one on
RisesFrom : ℕ → List ℕ → Type 0
RisesFrom n [] = Unit {0}
RisesFrom n (x ∷ xs) = (n ≤ x) × RisesFrom x xs

rises-weaker : (n m : ℕ) (xs : List ℕ) → m ≤ n → RisesFrom n xs → RisesFrom m xs
unfolding RisesFrom
rises-weaker n m [] le h = tt
rises-weaker n m (x ∷ xs) le h = (omega (arith, le, h.0), h.1)

rises-at : (n : ℕ) (xs : List ℕ) (k d : ℕ) → RisesFrom n xs → k < length xs → n ≤ get_or xs k d
unfolding RisesFrom
rises-at n [] k d h less = absurd (omega (arith, less))
rises-at n (x ∷ xs) zero d h less = h.0
rises-at n (x ∷ xs) (suc k) d h less = omega (arith, h.0, rises-at x xs k d h.1 (omega (arith, less)))

rises-order : (n : ℕ) (xs : List ℕ) → RisesFrom n xs → IsNonDecreasingBy (λ x. x) xs
unfolding RisesFrom
rises-order n [] h i j d le less = absurd (omega (arith, less))
rises-order n (x ∷ xs) h zero zero d le less = omega arith
rises-order n (x ∷ xs) h zero (suc j) d le less = rises-at x xs j d h.1 (omega (arith, less))
rises-order n (x ∷ xs) h (suc i) zero d le less = absurd (omega (arith, le))
rises-order n (x ∷ xs) h (suc i) (suc j) d le less = rises-order x xs h.1 i j d (omega (arith, le)) (omega (arith, less))

marked-rises : (n : ℕ) (xs : List ℕ) (marks : List Bool) → RisesFrom n xs → RisesFrom n (marked_of xs marks)
unfolding RisesFrom
marked-rises n [] marks h = tt
marked-rises n (x ∷ xs) [] h = tt
marked-rises n (x ∷ xs) (m ∷ marks) h = go m (marked-rises x xs marks h.1)
  where
    go : (b : Bool) → RisesFrom x (marked_of xs marks) → RisesFrom n (cond b (x ∷ marked_of xs marks) (marked_of xs marks))
    go true rest = (h.0, rest)
    go false rest = rises-weaker x n (marked_of xs marks) h.0 rest

entries-rise : (n : ℕ) (es : List GraphEntry) → ((i : ℕ) → i < length es → n ≤ (entry es i).offset) → AreRising es → RisesFrom n (map (λ e. e.offset) es)
unfolding RisesFrom
entries-rise n [] low rising = tt
entries-rise n (e ∷ es) low rising = (low 0 (omega arith), entries-rise e.offset es (λ i less. let step = rising 0 (suc i) (omega arith) (omega (arith, less)) in omega (arith, step)) (λ i j below less. rising (suc i) (suc j) (omega (arith, below)) (omega (arith, less))))

pub marked-order : (es : List GraphEntry) (marks : List Bool) (offsets : List ℕ) → AreRising es → offsets ≡ marked_of (map (λ e. e.offset) es) marks → IsNonDecreasingBy (λ x. x) offsets
marked-order es marks offsets rising is i j d le less =
    let all = rises-order 0 _ (marked-rises 0 (map (λ e. e.offset) es) marks (entries-rise 0 es (λ k l. omega arith) rising)) in
    let here : get_or (marked_of (map (λ e. e.offset) es) marks) i d ≤ get_or (marked_of (map (λ e. e.offset) es) marks) j d = all i j d le (omega (arith, less, ap length is)) in
    omega (arith, here, ap (λ xs. get_or xs i d) is, ap (λ xs. get_or xs j d) is)

-- ---- whether one is among them

module _ (xs : List ℕ) (offset i : ℕ) (order : IsNonDecreasingBy (λ x. x) xs) (at : IsPartitionPoint (λ x. nat_lt x offset ≡ true) (λ x. nat_lt x offset ≡ false) xs i) where
  only-here : (k : ℕ) → k < length xs → get_or xs k 0 ≡ offset → (i < length xs) × (get_or xs i 0 ≡ offset)
  only-here k less is = go (cases_order k i)
    where
      go : (k ≡ i) ⊎ ((k < i) ⊎ (i < k)) → (i < length xs) × (get_or xs i 0 ≡ offset)
      go (inl e) = (omega (arith, e, less), ap (λ m. get_or xs m 0) (sym e) ∙ is)
      go (inr (inl below)) = let low : get_or xs k 0 < offset = ltb-true _ offset (at.0 k 0 (omega arith) below) in absurd (omega (arith, low, is))
      go (inr (inr above)) =
          let low : offset ≤ get_or xs i 0 = ltb-false _ offset (at.1 i 0 (omega arith) (omega (arith, less, above))) in
          let high : get_or xs i 0 ≤ get_or xs k 0 = order i k 0 (omega (arith, above)) less in
          (omega (arith, less, above), omega (arith, low, high, is))

  among-here : list_any (λ x. x == offset) xs ≡ true → (i < length xs) × (get_or xs i 0 ≡ offset)
  among-here h =
      let found = any-in (λ x. x == offset) xs h in
      let place = in-at xs found.0 found.1 in
      only-here place.0 place.1 (get_or_default xs place.0 0 found.0 place.1 ∙ place.2 ∙ eqb-true found.0 offset found.2)

  pub holds-at : (o : ℕ) → i < length xs → o ≡ get_or xs i 0 → (o == offset) ≡ list_any (λ x. x == offset) xs
  holds-at o less is = same-truth _ _ (λ h. in-any (λ x. x == offset) xs (get_or xs i 0) (at-in xs i 0 less) (eq-eqb _ offset (sym is ∙ eqb-true o offset h))) (λ h. eq-eqb o offset (is ∙ (among-here h).1))

  pub holds-none : (b : Bool) → b ≡ false → length xs ≤ i → b ≡ list_any (λ x. x == offset) xs
  holds-none b is past = is ∙ go (cases_Bool (list_any (λ x. x == offset) xs))
    where
      go : (list_any (λ x. x == offset) xs ≡ true) ⊎ (list_any (λ x. x == offset) xs ≡ false) → false ≡ list_any (λ x. x == offset) xs
      go (inl h) = absurd (omega (arith, past, (among-here h).0))
      go (inr h) = sym h

-- ---- those between two

-- a test that passes up to a place and not from there on, and one that passes from a place on alone
front-passes : (t : ℕ → Bool) (xs : List ℕ) (j : ℕ) → IsPartitionPoint (λ x. t x ≡ true) (λ x. t x ≡ false) xs j → filter t xs ≡ take j xs
front-passes t [] zero at = refl
front-passes t [] (suc j) at = refl
front-passes t (x ∷ xs) zero at = ap (λ b. cond {A = List ℕ} b (x ∷ filter t xs) (filter t xs)) (at.1 0 x (omega arith) (omega arith)) ∙ front-passes t xs zero ((λ k d low high. absurd (omega (arith, low, high))), λ k d low high. at.1 (suc k) d (omega arith) (omega (arith, high)))
front-passes t (x ∷ xs) (suc j) at =
    ap (λ b. cond {A = List ℕ} b (x ∷ filter t xs) (filter t xs)) (at.0 0 x (omega arith) (omega arith))
    ∙ ap (λ ys. x ∷ ys) (front-passes t xs j ((λ k d low high. at.0 (suc k) d (omega arith) (omega (arith, high))), λ k d low high. at.1 (suc k) d (omega (arith, low)) (omega (arith, high))))

back-passes : (t : ℕ → Bool) (xs : List ℕ) (i : ℕ) → IsPartitionPoint (λ x. t x ≡ false) (λ x. t x ≡ true) xs i → filter t xs ≡ drop i xs
back-passes t [] zero at = refl
back-passes t [] (suc i) at = refl
back-passes t (x ∷ xs) zero at =
    ap (λ b. cond {A = List ℕ} b (x ∷ filter t xs) (filter t xs)) (at.1 0 x (omega arith) (omega arith))
    ∙ ap (λ ys. x ∷ ys) (back-passes t xs zero ((λ k d low high. absurd (omega (arith, low, high))), λ k d low high. at.1 (suc k) d (omega arith) (omega (arith, high))))
back-passes t (x ∷ xs) (suc i) at = ap (λ b. cond {A = List ℕ} b (x ∷ filter t xs) (filter t xs)) (at.0 0 x (omega arith) (omega arith)) ∙ back-passes t xs i ((λ k d low high. at.0 (suc k) d (omega arith) (omega (arith, high))), λ k d low high. at.1 (suc k) d (omega (arith, low)) (omega (arith, high)))

filter-both : (s t : ℕ → Bool) (xs : List ℕ) → filter (λ x. s x && t x) xs ≡ filter s (filter t xs)
filter-both s t [] = refl
filter-both s t (x ∷ xs) = ap (λ ys. cond {A = List ℕ} (s x && t x) (x ∷ ys) ys) (filter-both s t xs) ∙ go (s x) (t x) refl
  where
    go : (a b : Bool) → s x ≡ a → cond {A = List ℕ} (a && b) (x ∷ filter s (filter t xs)) (filter s (filter t xs)) ≡ filter s (cond {A = List ℕ} b (x ∷ filter t xs) (filter t xs))
    go true true e = sym (ap (λ c. cond {A = List ℕ} c (x ∷ filter s (filter t xs)) (filter s (filter t xs))) e)
    go false true e = sym (ap (λ c. cond {A = List ℕ} c (x ∷ filter s (filter t xs)) (filter s (filter t xs))) e)
    go true false e = refl
    go false false e = refl

pub front-order : (xs : List ℕ) (n : ℕ) → IsNonDecreasingBy (λ x. x) xs → IsNonDecreasingBy (λ x. x) (take n xs)
front-order xs n order i j d le less =
    let inside : j < length xs = omega (arith, less, length-take n xs) in
    let low : j < n = omega (arith, less, length-take n xs) in
    let here : get_or xs i d ≤ get_or xs j d = order i j d le inside in
    omega (arith, here, get_or-take n xs i d (omega (arith, le, low)), get_or-take n xs j d low)

pub between-is : (xs ys : List ℕ) (start end last first : ℕ) → IsPartitionPoint (λ x. nat_lt x end ≡ true) (λ x. nat_lt x end ≡ false) xs last → ys ≡ take last xs → IsPartitionPoint (λ x. nat_lt x start ≡ true) (λ x. nat_lt x start ≡ false) ys first
    → drop first ys ≡ filter (λ x. nat_le start x && nat_lt x end) xs
between-is xs ys start end last first high front low =
    sym (back-passes (λ x. nat_le start x) ys first ((λ k d a b. below (get_or ys k d) (low.0 k d a b)), λ k d a b. le-leb start (get_or ys k d) (ltb-false (get_or ys k d) start (low.1 k d a b))))
    ∙ ap (filter (λ x. nat_le start x)) (front ∙ sym (front-passes (λ x. nat_lt x end) xs last high))
    ∙ sym (filter-both (λ x. nat_le start x) (λ x. nat_lt x end) xs)
  where
    below : (x : ℕ) → nat_lt x start ≡ true → nat_le start x ≡ false
    below x h = false_from_ne_true (nat_le start x) (λ t. absurd (omega (arith, ltb-true x start h, leb-true start x t)))
