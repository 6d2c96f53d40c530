-- Items of lists, and what tests find and count among them.
use Rattle.std.proofs.Common.{◌≡◌, ℕ, zero, suc, ◌<◌, ◌≤◌, ◌⊎◌, ◌≢◌, List, [], ◌∷◌, length, get_or, refl, ap, sym, subst, ◌∙◌, inl, inr, arith, Bool, true, false, cond, ◌++◌, Some, None}
use Rattle.std.specs.Prelude.{◌||◌, Contains, AllPairs, Option, map}
use Rattle.std.specs.List.{filter, list_any, filter_map, flat_map, cons_option}
use Rattle.std.proofs.lemmas.Bool.{or_right, cases_order}
use Rattle.std.proofs.lemmas.List.{get_or_default}

-- an item of a list
abbrev pub IsIn : {A : Type 0} → A → List A → Type 0
IsIn x [] = ⊥
IsIn x (y ∷ ys) = (x ≡ y) ⊎ IsIn x ys

pub at-in : {A : Type 0} (xs : List A) (i : ℕ) (d : A) → i < length xs → IsIn (get_or xs i d) xs
at-in [] i d less = absurd (omega (arith, less))
at-in (x ∷ xs) zero d less = inl refl
at-in (x ∷ xs) (suc i) d less = inr (at-in xs i d (omega (arith, less)))

pub in-at : {A : Type 0} (xs : List A) (x : A) → IsIn x xs → (i : ℕ) × (i < length xs) × (get_or xs i x ≡ x)
in-at [] x i = absurd i
in-at (y ∷ ys) x (inl e) = (0, omega arith, sym e)
in-at (y ∷ ys) x (inr i) = let found = in-at ys x i in (suc found.0, omega (arith, found.1), found.2)

pub contains-in : {A : Type 0} (xs : List A) (x : A) → Contains xs x → IsIn x xs
contains-in xs x c = subst (λ y. IsIn y xs) c.2 (at-in xs c.0 x c.1)

pub in-contains : {A : Type 0} (xs : List A) (x : A) → IsIn x xs → Contains xs x
in-contains xs x i = in-at xs x i

-- items of a list whose later ones differ from earlier ones are at one place
pub distinct-same : {A : Type 0} (n : A → ℕ) (xs : List A) (x y : A) → AllPairs (λ a b. n a ≢ n b) xs → IsIn x xs → IsIn y xs → n x ≡ n y → x ≡ y
distinct-same {A} n xs x y apart i j same = go (cases_order p.0 q.0)
  where
    p : (k : ℕ) × (k < length xs) × (get_or xs k x ≡ x)
    p = in-at xs x i

    q : (k : ℕ) × (k < length xs) × (get_or xs k y ≡ y)
    q = in-at xs y j

    at_q : get_or xs q.0 x ≡ y
    at_q = get_or_default xs q.0 x y q.1 ∙ q.2

    go : (p.0 ≡ q.0) ⊎ ((p.0 < q.0) ⊎ (q.0 < p.0)) → x ≡ y
    go (inl e) = sym p.2 ∙ ap (λ k. get_or xs k x) e ∙ at_q
    go (inr (inl less)) = absurd (apart p.0 q.0 x less q.1 (ap n p.2 ∙ same ∙ ap n (sym at_q)))
    go (inr (inr less)) = absurd (apart q.0 p.0 x less p.1 (ap n at_q ∙ sym same ∙ ap n (sym p.2)))

module _ {A : Type 0} (t : A → Bool) where
  -- what a test finds
  pub any-in : (xs : List A) → list_any t xs ≡ true → (x : A) × IsIn x xs × (t x ≡ true)
  any-in [] h = absurd (cc)
  any-in (x ∷ xs) h = go (t x) refl h (λ e. any-in xs e)
    where
      go : (b : Bool) → t x ≡ b → (b || list_any t xs) ≡ true → (list_any t xs ≡ true → (y : A) × IsIn y xs × (t y ≡ true)) → (y : A) × IsIn y (x ∷ xs) × (t y ≡ true)
      go true is e others = (x, inl refl, is)
      go false is e others = let found = others e in (found.0, inr found.1, found.2)

  pub in-any : (xs : List A) (x : A) → IsIn x xs → t x ≡ true → list_any t xs ≡ true
  in-any [] x i h = absurd i
  in-any (y ∷ ys) x (inl e) h = let here : t y ≡ true = ap t (sym e) ∙ h in ap (λ b. b || list_any t ys) here
  in-any (y ∷ ys) x (inr i) h = or_right (t y) (list_any t ys) (in-any ys x i h)

  pub in-filter : (xs : List A) (x : A) → IsIn x (filter t xs) → IsIn x xs × (t x ≡ true)
  in-filter [] x i = absurd i
  in-filter (y ∷ ys) x i = go (t y) refl i (λ j. in-filter ys x j)
    where
      go : (b : Bool) → t y ≡ b → IsIn x (cond {A = List A} b (y ∷ filter t ys) (filter t ys)) → (IsIn x (filter t ys) → IsIn x ys × (t x ≡ true)) → IsIn x (y ∷ ys) × (t x ≡ true)
      go true is (inl e) others = (inl e, ap t e ∙ is)
      go true is (inr j) others = let f = others j in (inr f.0, f.1)
      go false is j others = let f = others j in (inr f.0, f.1)

  pub filter-in : (xs : List A) (x : A) → IsIn x xs → t x ≡ true → IsIn x (filter t xs)
  filter-in [] x i h = absurd i
  filter-in (y ∷ ys) x (inl e) h = let here : t y ≡ true = ap t (sym e) ∙ h in subst (λ b. IsIn x (cond {A = List A} b (y ∷ filter t ys) (filter t ys))) (sym here) (inl e)
  filter-in (y ∷ ys) x (inr j) h = go (t y) (filter-in ys x j h)
    where
      go : (b : Bool) → IsIn x (filter t ys) → IsIn x (cond {A = List A} b (y ∷ filter t ys) (filter t ys))
      go true k = inr k
      go false k = k

  -- how many items pass
  pub filter-few : (xs : List A) → length (filter t xs) ≤ length xs
  filter-few [] = omega arith
  filter-few (x ∷ xs) = go (t x) (filter-few xs)
    where
      go : (b : Bool) → length (filter t xs) ≤ length xs → length (cond {A = List A} b (x ∷ filter t xs) (filter t xs)) ≤ suc (length xs)
      go true h = omega (arith, h)
      go false h = omega (arith, h)

  pub none-passes : (xs : List A) (x : A) → length (filter t xs) ≡ 0 → IsIn x xs → t x ≡ true → ⊥
  none-passes xs x none i h = go (filter t xs) none (filter-in xs x i h)
    where
      go : (ys : List A) → length ys ≡ 0 → IsIn x ys → ⊥
      go [] e j = j
      go (y ∷ ys) e j = absurd (omega (arith, e))

-- Where a second test passes only what a first one passes, it passes fewer items or the same ones.
pub fewer-or-same : {A : Type 0} (p q : A → Bool) (xs : List A) → ((x : A) → IsIn x xs → q x ≡ true → p x ≡ true) → (length (filter q xs) < length (filter p xs)) ⊎ ((length (filter q xs) ≡ length (filter p xs)) × ((x : A) → IsIn x xs → p x ≡ true → q x ≡ true))
fewer-or-same p q [] under = inr (refl, λ x i h. absurd i)
fewer-or-same {A} p q (y ∷ ys) under = go (p y) (q y) refl refl (fewer-or-same p q ys (λ x i h. under x (inr i) h))
  where
    go : (a b : Bool) → p y ≡ a → q y ≡ b → (length (filter q ys) < length (filter p ys)) ⊎ ((length (filter q ys) ≡ length (filter p ys)) × ((x : A) → IsIn x ys → p x ≡ true → q x ≡ true))
        → (length (cond {A = List A} b (y ∷ filter q ys) (filter q ys)) < length (cond {A = List A} a (y ∷ filter p ys) (filter p ys))) ⊎ ((length (cond {A = List A} b (y ∷ filter q ys) (filter q ys)) ≡ length (cond {A = List A} a (y ∷ filter p ys) (filter p ys))) × ((x : A) → IsIn x (y ∷ ys) → p x ≡ true → q x ≡ true))
    go true true ea eb (inl less) = inl (omega (arith, less))
    go true true ea eb (inr same) = inr (ap suc same.0, each)
      where
        each : (x : A) → IsIn x (y ∷ ys) → p x ≡ true → q x ≡ true
        each x (inl e) h = ap q e ∙ eb
        each x (inr i) h = same.1 x i h
    go true false ea eb (inl less) = inl (omega (arith, less))
    go true false ea eb (inr same) = inl (omega (arith, same.0))
    go false true ea eb others = absurd (clash (sym ea ∙ under y (inl refl) eb))
      where
        clash : false ≡ true → ⊥
        clash e = cc
    go false false ea eb (inl less) = inl less
    go false false ea eb (inr same) = inr (same.0, each)
      where
        each : (x : A) → IsIn x (y ∷ ys) → p x ≡ true → q x ≡ true
        each x (inl e) h = absurd (clash (sym ea ∙ ap p (sym e) ∙ h))
          where
            clash : false ≡ true → ⊥
            clash f = cc
        each x (inr i) h = same.1 x i h

-- ---- items of lists that are made of others

pub in-append : {A : Type 0} (xs ys : List A) (x : A) → IsIn x (xs ++ ys) → IsIn x xs ⊎ IsIn x ys
in-append [] ys x i = inr i
in-append (y ∷ xs) ys x (inl e) = inl (inl e)
in-append (y ∷ xs) ys x (inr i) = go (in-append xs ys x i)
  where
    go : IsIn x xs ⊎ IsIn x ys → IsIn x (y ∷ xs) ⊎ IsIn x ys
    go (inl j) = inl (inr j)
    go (inr j) = inr j

pub append-left : {A : Type 0} (xs ys : List A) (x : A) → IsIn x xs → IsIn x (xs ++ ys)
append-left [] ys x i = absurd i
append-left (y ∷ xs) ys x (inl e) = inl e
append-left (y ∷ xs) ys x (inr i) = inr (append-left xs ys x i)

pub append-right : {A : Type 0} (xs ys : List A) (x : A) → IsIn x ys → IsIn x (xs ++ ys)
append-right [] ys x i = i
append-right (y ∷ xs) ys x i = inr (append-right xs ys x i)

module _ {A B : Type 0} (f : A → Option B) where
  pub in-filter_map : (xs : List A) (y : B) → IsIn y (filter_map f xs) → (x : A) × IsIn x xs × (f x ≡ Some y)
  in-filter_map [] y i = absurd i
  in-filter_map (x ∷ xs) y i = go (f x) refl i (λ j. in-filter_map xs y j)
    where
      go : (o : Option B) → f x ≡ o → IsIn y (cons_option o (filter_map f xs)) → (IsIn y (filter_map f xs) → (z : A) × IsIn z xs × (f z ≡ Some y)) → (z : A) × IsIn z (x ∷ xs) × (f z ≡ Some y)
      go None is j others = let found = others j in (found.0, inr found.1, found.2)
      go (Some z) is (inl e) others = (x, inl refl, is ∙ ap Some (sym e))
      go (Some z) is (inr j) others = let found = others j in (found.0, inr found.1, found.2)

  pub filter_map-in : (xs : List A) (x : A) (y : B) → IsIn x xs → f x ≡ Some y → IsIn y (filter_map f xs)
  filter_map-in [] x y i is = absurd i
  filter_map-in (z ∷ xs) x y (inl e) is = let here : f z ≡ Some y = ap f (sym e) ∙ is in subst (λ o. IsIn y (cons_option o (filter_map f xs))) (sym here) (inl refl)
  filter_map-in (z ∷ xs) x y (inr i) is = go (f z) (filter_map-in xs x y i is)
    where
      go : (o : Option B) → IsIn y (filter_map f xs) → IsIn y (cons_option o (filter_map f xs))
      go None j = j
      go (Some w) j = inr j

module _ {A B : Type 0} (g : A → B) where
  pub in-map : (xs : List A) (y : B) → IsIn y (map g xs) → (x : A) × IsIn x xs × (y ≡ g x)
  in-map [] y i = absurd i
  in-map (x ∷ xs) y (inl same) = (x, inl refl, same)
  in-map (x ∷ xs) y (inr i) = let found = in-map xs y i in (found.0, inr found.1, found.2)

  pub map-in : (xs : List A) (x : A) → IsIn x xs → IsIn (g x) (map g xs)
  map-in [] x i = absurd i
  map-in (y ∷ xs) x (inl same) = inl (ap g same)
  map-in (y ∷ xs) x (inr i) = inr (map-in xs x i)

module _ {A B : Type 0} (g : A → List B) where
  pub in-flat_map : (xs : List A) (y : B) → IsIn y (flat_map g xs) → (x : A) × IsIn x xs × IsIn y (g x)
  in-flat_map [] y i = absurd i
  in-flat_map (x ∷ xs) y i = go (in-append (g x) (flat_map g xs) y i) (in-flat_map xs y)
    where
      go : IsIn y (g x) ⊎ IsIn y (flat_map g xs) → (IsIn y (flat_map g xs) → (z : A) × IsIn z xs × IsIn y (g z)) → (z : A) × IsIn z (x ∷ xs) × IsIn y (g z)
      go (inl j) more = (x, inl refl, j)
      go (inr j) more = let found = more j in (found.0, inr found.1, found.2)

  pub flat_map-in : (xs : List A) (x : A) (y : B) → IsIn x xs → IsIn y (g x) → IsIn y (flat_map g xs)
  flat_map-in [] x y i j = absurd i
  flat_map-in (z ∷ xs) x y (inl same) j = append-left (g z) (flat_map g xs) y (subst (λ w. IsIn y (g w)) same j)
  flat_map-in (z ∷ xs) x y (inr i) j = append-right (g z) (flat_map g xs) y (flat_map-in xs x y i j)
