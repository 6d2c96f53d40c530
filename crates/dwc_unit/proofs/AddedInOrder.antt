-- Entries that were added in file order stand in file order as they were added: `in-order-listed`.
use Rattle.std.proofs.Common.{◌≡◌, ◌≢◌, ℕ, zero, suc, ◌<◌, ◌≤◌, refl, sym, ap, subst, ◌∙◌, arith, List, [], ◌∷◌, ◌++◌, length, drop, get_or, Bool, true, false, eqb, ltb}
use Rattle.std.specs.Prelude.{if◌then◌else◌, nat_lt}
use Rattle.std.proofs.lemmas.Bool.{eqb-true, eqb-false, ltb-true, ltb-false, lt-ltb}
use Rattle.dwc_unit.specs.GivenUnits.{Addition, GivenEntry, entry_at, below, in_file_order}
use Rattle.dwc_unit.specs.FileOrders.{no_addition}
use Rattle.dwc_unit.specs.AddedInOrder.{IsParent, AreInOrder, entries_with}

-- ---- entries in front that are deeper than a depth, and those behind them

abbrev deeper : ℕ → List GivenEntry → List GivenEntry
deeper depth [] = []
deeper depth (x ∷ xs) = if nat_lt depth x.depth then x ∷ deeper depth xs else []

abbrev behind : ℕ → List GivenEntry → List GivenEntry
behind depth [] = []
behind depth (x ∷ xs) = if nat_lt depth x.depth then behind depth xs else x ∷ xs

-- what is deeper than the depth one below stands in front of what is deeper than a depth
deeper-whole : (depth : ℕ) (xs : List GivenEntry) → deeper (suc depth) xs ++ deeper depth (behind (suc depth) xs) ≡ deeper depth xs
deeper-whole depth [] = refl
deeper-whole depth (x ∷ xs) = go (nat_lt (suc depth) x.depth) refl (deeper-whole depth xs)
  where
    go : (b : Bool) → nat_lt (suc depth) x.depth ≡ b → deeper (suc depth) xs ++ deeper depth (behind (suc depth) xs) ≡ deeper depth xs
        → (if b then x ∷ deeper (suc depth) xs else []) ++ deeper depth (if b then behind (suc depth) xs else x ∷ xs) ≡ (if nat_lt depth x.depth then x ∷ deeper depth xs else [])
    go true e rest =
        let above = ltb-true (suc depth) x.depth e in
        ap (λ ys. x ∷ ys) rest ∙ sym (ap (λ b. if b then x ∷ deeper depth xs else []) (lt-ltb depth x.depth (omega (arith, above))))
    go false e rest = refl

-- ---- a place of a list

pub drop-head : {A : Type 0} (xs : List A) (i : ℕ) (d x : A) (ys : List A) → drop i xs ≡ x ∷ ys → get_or xs i d ≡ x
drop-head [] zero d x ys is = absurd (omega (arith, ap length is))
drop-head [] (suc i) d x ys is = absurd (omega (arith, ap length is))
drop-head (z ∷ xs) zero d x ys is = ap (λ zs. get_or zs 0 d) is
drop-head (z ∷ xs) (suc i) d x ys is = drop-head xs i d x ys is

pub drop-behind : {A : Type 0} (xs : List A) (i : ℕ) (x : A) (ys : List A) → drop i xs ≡ x ∷ ys → drop (suc i) xs ≡ ys
drop-behind [] zero x ys is = absurd (omega (arith, ap length is))
drop-behind [] (suc i) x ys is = absurd (omega (arith, ap length is))
drop-behind (z ∷ xs) zero x ys is = ap (λ zs. drop 1 zs) is
drop-behind (z ∷ xs) (suc i) x ys is = drop-behind xs i x ys is

pub drop-within : {A : Type 0} (xs : List A) (i : ℕ) (x : A) (ys : List A) → drop i xs ≡ x ∷ ys → i < length xs
drop-within [] zero x ys is = absurd (omega (arith, ap length is))
drop-within [] (suc i) x ys is = absurd (omega (arith, ap length is))
drop-within (z ∷ xs) zero x ys is = omega arith
drop-within (z ∷ xs) (suc i) x ys is = let there = drop-within xs i x ys is in omega (arith, there)

drop-end : {A : Type 0} (xs : List A) (i : ℕ) → drop i xs ≡ [] → length xs ≤ i
drop-end [] i is = omega arith
drop-end (z ∷ xs) zero is = absurd (omega (arith, ap length is))
drop-end (z ∷ xs) (suc i) is = let there = drop-end xs i is in omega (arith, there)

-- ---- entries below a parent

module _ (ds : List ℕ) (es : List Addition) (order : AreInOrder ds es) where
  -- the depth of the entry at a place, and the place of its parent
  abbrev depth_of : ℕ → ℕ
  depth_of i = get_or ds i 0

  abbrev parent_of : ℕ → ℕ
  parent_of i = (get_or es i no_addition).parent

  -- Behind an entry that is not below a parent none is below it.
  none-below : (depth p j i : ℕ) (xs : List Addition) → drop i es ≡ xs → p < j → j < i → depth_of j ≤ depth_of p → below depth p i xs ≡ []
  none-below depth p j i [] is after before high = refl
  none-below depth p j i (e ∷ xs) is after before high =
      go (eqb e.parent p) refl (none-below depth p j (suc i) xs (drop-behind es i e xs is) after (omega (arith, before)) high)
    where
      go : (b : Bool) → eqb e.parent p ≡ b → below depth p (suc i) xs ≡ [] → (if b then entry_at depth i e ∷ (below (suc depth) i (suc i) xs ++ below depth p (suc i) xs) else below depth p (suc i) xs) ≡ []
      go true same rest =
          let parent : parent_of i ≡ p = ap (λ (a : Addition). a.parent) (drop-head es i no_addition e xs is) ∙ eqb-true e.parent p same in
          let own : IsParent ds p i = subst (λ q. IsParent ds q i) parent (order.parents i (omega (arith, before)) (drop-within es i e xs is)) in
          absurd (omega (arith, own.depth, own.between j after before, high))
      go false apart rest = rest

  -- an entry whose depth is one more than that of an entry before it is below that one, where all between them are deeper than that
  parent-here : (p i : ℕ) → p < i → i < length es → depth_of i ≡ suc (depth_of p) → ((j : ℕ) → p < j → j < i → depth_of p < depth_of j) → parent_of i ≡ p
  parent-here p i before within depth between = by_order (order.parents i (omega (arith, before)) within) (ltb (parent_of i) p) refl (ltb p (parent_of i)) refl
    where
      by_order : IsParent ds (parent_of i) i → (a : Bool) → ltb (parent_of i) p ≡ a → (b : Bool) → ltb p (parent_of i) ≡ b → parent_of i ≡ p
      by_order own true e b f = absurd (omega (arith, depth, own.between p (ltb-true _ _ e) before))
      by_order own false e true f = absurd (omega (arith, depth, own.depth, between (parent_of i) (ltb-true _ _ f) own.before))
      by_order own false e false f = omega (arith, ltb-false _ _ e, ltb-false _ _ f)

  -- the entry behind another is at most one deeper
  behind-near : (i : ℕ) → suc i < length es → depth_of (suc i) ≤ suc (depth_of i)
  behind-near i within = by_order (order.parents (suc i) (omega arith) within) (ltb (parent_of (suc i)) i) refl
    where
      by_order : IsParent ds (parent_of (suc i)) (suc i) → (a : Bool) → ltb (parent_of (suc i)) i ≡ a → depth_of (suc i) ≤ suc (depth_of i)
      by_order own true e = let near = own.between i (ltb-true _ _ e) (omega arith) in omega (arith, near)
      by_order own false e =
          let same : parent_of (suc i) ≡ i = omega (arith, ltb-false _ _ e, own.before) in
          let depth = subst (λ q. depth_of (suc i) ≡ suc (depth_of q)) same own.depth in
          omega (arith, depth)

  -- so none in front of those behind an entry is too deep to be right below it
  none-passed : (i : ℕ) (ys : List ℕ) (xs : List Addition) → drop (suc i) ds ≡ ys → drop (suc i) es ≡ xs → behind (suc (depth_of i)) (entries_with (suc i) ys xs) ≡ entries_with (suc i) ys xs
  none-passed i [] xs depths is = refl
  none-passed i (d ∷ ys) [] depths is = refl
  none-passed i (d ∷ ys) (e ∷ xs) depths is = go (nat_lt (suc (depth_of i)) d) refl
    where
      go : (b : Bool) → nat_lt (suc (depth_of i)) d ≡ b → (if b then behind (suc (depth_of i)) (entries_with (suc (suc i)) ys xs) else entry_at d (suc i) e ∷ entries_with (suc (suc i)) ys xs) ≡ entry_at d (suc i) e ∷ entries_with (suc (suc i)) ys xs
      go true e' = absurd (omega (arith, ltb-true _ _ e', behind-near i (drop-within es (suc i) e xs is), drop-head ds (suc i) 0 d ys depths))
      go false e' = refl

  -- What is below a parent from a place on: without what lies in a child before that place, up to the first entry that is not below
  -- the parent.
  below-with : (p i : ℕ) (ys : List ℕ) (xs : List Addition) → drop i ds ≡ ys → drop i es ≡ xs → p < i → ((j : ℕ) → p < j → j < i → depth_of p < depth_of j)
      → below (suc (depth_of p)) p i xs ≡ deeper (depth_of p) (behind (suc (depth_of p)) (entries_with i ys xs))
  below-with p i [] [] depths is before between = refl
  below-with p i (d ∷ ys) [] depths is before between = refl
  below-with p i [] (e ∷ xs) depths is before between = absurd (omega (arith, drop-end ds i depths, drop-within es i e xs is, order.counted))
  below-with p i (d ∷ ys) (e ∷ xs) depths is before between =
      let rest_depths = drop-behind ds i d ys depths in
      let rest_is = drop-behind es i e xs is in
      let here = drop-head ds i 0 d ys depths in
      go here rest_depths rest_is (λ more. below-with p (suc i) ys xs rest_depths rest_is (omega (arith, before)) more) (below-with i (suc i) ys xs rest_depths rest_is (omega arith) (λ j after low. absurd (omega (arith, after, low))))
      (nat_lt (suc (depth_of p)) d) refl (nat_lt (depth_of p) d) refl (eqb e.parent p) refl
    where
      parent-is : parent_of i ≡ e.parent
      parent-is = ap (λ (a : Addition). a.parent) (drop-head es i no_addition e xs is)

      within : i < length es
      within = drop-within es i e xs is

      child : eqb e.parent p ≡ true → IsParent ds p i
      child same = subst (λ q. IsParent ds q i) (parent-is ∙ eqb-true e.parent p same) (order.parents i (omega (arith, before)) within)

      further : depth_of i ≡ d → depth_of p < d → (j : ℕ) → p < j → j < suc i → depth_of p < depth_of j
      further here above j after low = at (eqb j i) refl
        where
          at : (b : Bool) → eqb j i ≡ b → depth_of p < depth_of j
          at true e' = subst (λ k. depth_of p < depth_of k) (sym (eqb-true j i e')) (omega (arith, here, above))
          at false e' = let apart : j ≢ i = eqb-false j i e' in between j after (omega (arith, low, apart))

      go : depth_of i ≡ d → drop (suc i) ds ≡ ys → drop (suc i) es ≡ xs
          → (((j : ℕ) → p < j → j < suc i → depth_of p < depth_of j) → below (suc (depth_of p)) p (suc i) xs ≡ deeper (depth_of p) (behind (suc (depth_of p)) (entries_with (suc i) ys xs)))
          → below (suc (depth_of i)) i (suc i) xs ≡ deeper (depth_of i) (behind (suc (depth_of i)) (entries_with (suc i) ys xs))
          → (a : Bool) → nat_lt (suc (depth_of p)) d ≡ a → (b : Bool) → nat_lt (depth_of p) d ≡ b → (c : Bool) → eqb e.parent p ≡ c
          → (if c then entry_at (suc (depth_of p)) i e ∷ (below (suc (suc (depth_of p))) i (suc i) xs ++ below (suc (depth_of p)) p (suc i) xs) else below (suc (depth_of p)) p (suc i) xs)
          ≡ deeper (depth_of p) (if a then behind (suc (depth_of p)) (entries_with (suc i) ys xs) else entry_at d i e ∷ entries_with (suc i) ys xs)
      go here rest_depths rest_is others inner true low b e2 true same = absurd (omega (arith, ltb-true _ _ low, here, (child same).depth))
      go here rest_depths rest_is others inner true low b e2 false apart = others (further here (omega (arith, ltb-true _ _ low)))
      go here rest_depths rest_is others inner false low false high true same = absurd (omega (arith, ltb-false _ _ high, here, (child same).depth))
      go here rest_depths rest_is others inner false low false high false apart =
          none-below (suc (depth_of p)) p i (suc i) xs rest_is before (omega arith) (omega (arith, here, ltb-false _ _ high))
          ∙ sym (ap (λ b. if b then entry_at d i e ∷ deeper (depth_of p) (entries_with (suc i) ys xs) else []) high)
      go here rest_depths rest_is others inner false low true above false apart =
          absurd (eqb-false e.parent p apart (sym parent-is ∙ parent-here p i before within (omega (arith, here, ltb-false _ _ low, ltb-true _ _ above)) between))
      go here rest_depths rest_is others inner false low true above true same =
          let depth : suc (depth_of p) ≡ d = omega (arith, ltb-false _ _ low, ltb-true _ _ above) in
          let own : depth_of i ≡ suc (depth_of p) = here ∙ sym depth in
          let in_it = subst (λ n. below (suc n) i (suc i) xs ≡ deeper n (behind (suc n) (entries_with (suc i) ys xs))) own inner in
          let none_passed = subst (λ n. behind (suc n) (entries_with (suc i) ys xs) ≡ entries_with (suc i) ys xs) own (none-passed i ys xs rest_depths rest_is) in
          ap (λ zs. entry_at (suc (depth_of p)) i e ∷ (zs ++ below (suc (depth_of p)) p (suc i) xs)) (in_it ∙ ap (deeper (suc (depth_of p))) none_passed)
          ∙ ap (λ zs. entry_at (suc (depth_of p)) i e ∷ (deeper (suc (depth_of p)) (entries_with (suc i) ys xs) ++ zs)) (others (further here (ltb-true _ _ above)))
          ∙ ap (λ zs. entry_at (suc (depth_of p)) i e ∷ zs) (deeper-whole (depth_of p) (entries_with (suc i) ys xs))
          ∙ ap (λ n. entry_at n i e ∷ deeper (depth_of p) (entries_with (suc i) ys xs)) depth
          ∙ sym (ap (λ b. if b then entry_at d i e ∷ deeper (depth_of p) (entries_with (suc i) ys xs) else []) above)

  -- all entries behind the root are below it
  all-deeper : (i : ℕ) (ys : List ℕ) (xs : List Addition) → 0 < i → drop i ds ≡ ys → drop i es ≡ xs → deeper 0 (entries_with i ys xs) ≡ entries_with i ys xs
  all-deeper i [] xs some depths is = refl
  all-deeper i (d ∷ ys) [] some depths is = refl
  all-deeper i (d ∷ ys) (e ∷ xs) some depths is =
      let own = order.parents i some (drop-within es i e xs is) in
      let deep : nat_lt 0 d ≡ true = lt-ltb 0 d (omega (arith, own.depth, drop-head ds i 0 d ys depths)) in
      ap (λ b. if b then entry_at d i e ∷ deeper 0 (entries_with (suc i) ys xs) else []) deep
      ∙ ap (λ zs. entry_at d i e ∷ zs) (all-deeper (suc i) ys xs (omega arith) (drop-behind ds i d ys depths) (drop-behind es i e xs is))

-- Entries that were added in file order stand in file order as they were added.
pub in-order-listed : (ds : List ℕ) (es : List Addition) → AreInOrder ds es → in_file_order es ≡ entries_with 0 ds es
in-order-listed ds [] order = absurd (omega (arith, order.some))
in-order-listed [] (r ∷ es) order = absurd (omega (arith, order.counted))
in-order-listed (d ∷ ds) (r ∷ es) order =
    let root : d ≡ 0 = order.root in
    let all = subst (λ n. below (suc n) 0 1 es ≡ deeper n (behind (suc n) (entries_with 1 ds es))) root
    (below-with (d ∷ ds) (r ∷ es) order 0 1 ds es refl refl (omega arith) (λ j after before. absurd (omega (arith, after, before)))) in
    let near = subst (λ n. behind (suc n) (entries_with 1 ds es) ≡ entries_with 1 ds es) root (none-passed (d ∷ ds) (r ∷ es) order 0 ds es refl refl) in
    ap (λ zs. entry_at 0 0 r ∷ zs) (all ∙ ap (deeper 0) near ∙ all-deeper (d ∷ ds) (r ∷ es) order 1 ds es (omega arith) refl refl)
    ∙ ap (λ n. entry_at n 0 r ∷ entries_with 1 ds es) (sym root)
