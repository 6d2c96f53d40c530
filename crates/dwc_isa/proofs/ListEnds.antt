-- Lists with one more item at the end.
use Rattle.std.proofs.Common.{◌≡◌, ℕ, ◌+◌, ◌<◌, ◌≤◌, ◌⊎◌, List, [], ◌∷◌, ◌++◌, length, get_or, map, drop, Some, refl, ap, sym, subst, arith, inl, inr}
use Rattle.std.specs.Prelude.{All, AllPairs}
use Rattle.std.specs.Option.{unwrap_or}
use Rattle.std.proofs.lemmas.List.{get_or_append_left, get_or_push, length_push, drop_more, drop_all}
use Rattle.std.proofs.lemmas.List.Elements.{All-cons, All-head, All-map, All-tail}
use Rattle.std.proofs.lemmas.List.Quantifiers.{all_pairs_push}
use Rattle.dwc_base.specs.Wasm.{last_of}

-- what all have, those in front have
pub all-front : {A : Type 0} (P : A → Type 0) (xs : List A) (y : A) → All P (xs ++ y ∷ []) → All P xs
all-front P xs y h = λ k d inside. subst P (get_or_append_left xs (y ∷ []) d k inside) (h k d (omega (arith, inside, length_push xs y)))

-- and so has the last
pub all-last : {A : Type 0} (P : A → Type 0) (xs : List A) (y : A) → All P (xs ++ y ∷ []) → P y
all-last P xs y h = subst P (get_or_push xs y y (length xs) refl) (h (length xs) y (omega (arith, length_push xs y)))

pub pairs-front : {A : Type 0} (R : A → A → Type 0) (xs : List A) (y : A) → AllPairs R (xs ++ y ∷ []) → AllPairs R xs
pairs-front R xs y h = λ i j d below inside.
    subst (λ z. R z (get_or xs j d)) (get_or_append_left xs (y ∷ []) d i (omega (arith, below, inside)))
    (subst (λ z. R (get_or (xs ++ y ∷ []) i d) z) (get_or_append_left xs (y ∷ []) d j inside) (h i j d below (omega (arith, inside, length_push xs y))))

pub pairs-last : {A : Type 0} (R : A → A → Type 0) (xs : List A) (y : A) → AllPairs R (xs ++ y ∷ []) → All (λ x. R x y) xs
pairs-last R xs y h = λ i d inside.
    subst (λ z. R z y) (get_or_append_left xs (y ∷ []) d i inside)
    (subst (λ z. R (get_or (xs ++ y ∷ []) i d) z) (get_or_push xs y d (length xs) refl) (h i (length xs) d inside (omega (arith, length_push xs y))))

pub pairs-push : {A : Type 0} (R : A → A → Type 0) (xs : List A) (y : A) → AllPairs R xs → All (λ x. R x y) xs → AllPairs R (xs ++ y ∷ [])
pairs-push R xs y h g = all_pairs_push R xs y h (λ k d inside. g k d inside)

-- a list with an item has a last one
pub record Ends {A : Type 0} (xs : List A) : Type 0 where
  pub front : List A
  pub last : A
  pub is : xs ≡ front ++ last ∷ []

pub ends : {A : Type 0} (xs : List A) → (xs ≡ []) ⊎ Ends xs
ends [] = inl refl
ends (x ∷ []) = inr (record { front = []; last = x; is = refl })
ends {A} (x ∷ y ∷ ys) = go (ends (y ∷ ys))
  where
    go : (y ∷ ys ≡ []) ⊎ Ends (y ∷ ys) → (x ∷ y ∷ ys ≡ []) ⊎ Ends (x ∷ y ∷ ys)
    go (inl e) = absurd (cc)
    go (inr e) = inr (record { front = x ∷ e.front; last = e.last; is = ap (λ zs. x ∷ zs) e.is })

-- what all have of which some are a view
pub all-of-map : {A B : Type 0} (P : B → Type 0) (f : A → B) (xs : List A) → All P (map f xs) → All (λ x. P (f x)) xs
all-of-map P f [] h = λ k d inside. absurd (omega (arith, inside))
all-of-map P f (x ∷ xs) h = All-cons (λ y. P (f y)) x xs (All-head P (f x) (map f xs) h) (all-of-map P f xs (All-tail P (f x) (map f xs) h))

-- what all have of which others have the same view
pub all-seen : {A B C : Type 0} (P : C → Type 0) (f : A → C) (g : B → C) (xs : List A) (ys : List B) → map g ys ≡ map f xs → All (λ x. P (f x)) xs → All (λ y. P (g y)) ys
all-seen P f g xs ys same h = all-of-map P g ys (subst (All P) (sym same) (All-map P f xs h))

-- the next item of a list, and those behind it
pub map-next : {A B : Type 0} (f : A → B) (xs : List A) (i : ℕ) (d : A) → i < length xs → map f (drop i xs) ≡ f (get_or xs i d) ∷ map f (drop (i + 1) xs)
map-next f xs i d inside = ap (map f) (drop_more xs i d inside)

-- what is behind the last place of a list
pub map-past : {A B : Type 0} (f : A → B) (xs : List A) (i : ℕ) → length xs ≤ i → map f (drop i xs) ≡ []
map-past f xs i past = ap (map f) (drop_all i xs past)

pub last_of-end : {A : Type 0} (xs : List A) (y : A) → last_of (xs ++ y ∷ []) ≡ Some y
last_of-end [] y = refl
last_of-end (x ∷ xs) y = ap (λ o. Some (unwrap_or o x)) (last_of-end xs y)
