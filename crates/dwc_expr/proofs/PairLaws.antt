-- Items of lists and each two of them, and what tests say of all.
use Rattle.std.proofs.Common.{◌≡◌, ℕ, zero, suc, ◌<◌, ◌≤◌, ◌+◌, ◌-◌, ◌⊎◌, List, [], ◌∷◌, get_or, refl, ap, sym, subst, ◌∙◌, inl, inr, arith, Bool, true, false, ◌++◌, Some, None}
use Rattle.std.specs.Prelude.{All, AllPairs, Option, map, ⊤}
use Rattle.std.specs.List.{list_all, filter_map, cons_option, range_with_len}
use Rattle.std.proofs.lemmas.Bool.{cases_lt, and_parts, and_from}
use Rattle.std.proofs.lemmas.List.{get_or-map, length-map}
use Rattle.std.proofs.lemmas.List.Kept.{AllPairs-cons}
use Rattle.dwc_base.proofs.InLists.{IsIn, at-in, in-at, in-append, in-map, in-filter_map}
use Rattle.dwc_native.specs.Placed.{NativeRange}
use Rattle.dwc_native.specs.LabelRanges.{bytes_of, AtEachByte}

-- ---- what holds of all items

pub all-in : {A : Type 0} (P : A → Type 0) (xs : List A) → All P xs → (x : A) → IsIn x xs → P x
all-in P xs all x i = let found = in-at xs x i in subst P found.2 (all found.0 x found.1)

pub in-all : {A : Type 0} (P : A → Type 0) (xs : List A) → ((x : A) → IsIn x xs → P x) → All P xs
in-all P xs each k d inside = each (get_or xs k d) (at-in xs k d inside)

-- what holds of all items of a list that is made by a function
pub all-unmapped : {A B : Type 0} (f : A → B) (P : B → Type 0) (xs : List A) → All P (map f xs) → All (λ x. P (f x)) xs
all-unmapped f P xs all k d inside = subst P (get_or-map f xs k d (f d) inside) (all k (f d) (subst (λ n. k < n) (sym (length-map xs f)) inside))

-- ---- each two items

-- what holds of each item and each later one
abbrev pub Pairs : {A : Type 0} → (A → A → Type 0) → List A → Type 0
Pairs R [] = ⊤
Pairs {A} R (x ∷ xs) = ((y : A) → IsIn y xs → R x y) × Pairs R xs

pub pairs-from : {A : Type 0} (R : A → A → Type 0) (xs : List A) → AllPairs R xs → Pairs R xs
pairs-from R [] h = tt
pairs-from {A} R (x ∷ xs) h = (behind, pairs-from R xs (λ i j d below inside. h (suc i) (suc j) d (omega (arith, below)) (omega (arith, inside))))
  where
    behind : (y : A) → IsIn y xs → R x y
    behind y i = let found = in-at xs y i in subst (R x) found.2 (h 0 (suc found.0) y (omega arith) (omega (arith, found.1)))

pub pairs-to : {A : Type 0} (R : A → A → Type 0) (xs : List A) → Pairs R xs → AllPairs R xs
pairs-to R [] h = λ i j d below inside. absurd (omega (arith, inside))
pairs-to R (x ∷ xs) h = AllPairs-cons R x xs (in-all (R x) xs h.0) (pairs-to R xs h.1)

pub pairs-append : {A : Type 0} (R : A → A → Type 0) (xs ys : List A) → Pairs R xs → Pairs R ys → ((x y : A) → IsIn x xs → IsIn y ys → R x y) → Pairs R (xs ++ ys)
pairs-append R [] ys h k across = k
pairs-append {A} R (x ∷ xs) ys h k across = (λ y i. go y (in-append xs ys y i), pairs-append R xs ys h.1 k (λ a b i j. across a b (inr i) j))
  where
    go : (y : A) → IsIn y xs ⊎ IsIn y ys → R x y
    go y (inl i) = h.0 y i
    go y (inr j) = across x y (inl refl) j

pub pairs-map : {A B : Type 0} (f : A → B) (R : B → B → Type 0) (xs : List A) → Pairs (λ x y. R (f x) (f y)) xs → Pairs R (map f xs)
pairs-map f R [] h = tt
pairs-map {A} {B} f R (x ∷ xs) h = (behind, pairs-map f R xs h.1)
  where
    behind : (y : B) → IsIn y (map f xs) → R (f x) y
    behind y i = let found = in-map f xs y i in subst (R (f x)) (sym found.2) (h.0 found.0 found.1)

-- what a function gives of some items, in their order
pub pairs-filter_map :
    {A B : Type 0} (f : A → Option B) (P : A → Type 0) (S : A → A → Type 0) (R : B → B → Type 0)
    → ((x y : A) (a b : B) → P x → P y → S x y → f x ≡ Some a → f y ≡ Some b → R a b)
    → (xs : List A) → ((x : A) → IsIn x xs → P x) → Pairs S xs → Pairs R (filter_map f xs)
pairs-filter_map f P S R step [] each h = tt
pairs-filter_map {A} {B} f P S R step (x ∷ xs) each h = go (f x) refl (pairs-filter_map f P S R step xs (λ y i. each y (inr i)) h.1)
  where
    go : (o : Option B) → f x ≡ o → Pairs R (filter_map f xs) → Pairs R (cons_option o (filter_map f xs))
    go None e others = others
    go (Some a) e others = (λ b i. let found = in-filter_map f xs b i in step x found.0 a b (each x (inl refl)) (each found.0 (inr found.1)) (h.0 found.0 found.1) e found.2, others)

pub filter-none : {A B : Type 0} (f : A → Option B) (xs : List A) → ((x : A) → IsIn x xs → f x ≡ None) → filter_map f xs ≡ []
filter-none f [] h = refl
filter-none f (x ∷ xs) h = ap (λ o. cons_option o (filter_map f xs)) (h x (inl refl)) ∙ filter-none f xs (λ y i. h y (inr i))

-- ---- tests

pub all-true : {A : Type 0} (t : A → Bool) (xs : List A) → list_all t xs ≡ true → (x : A) → IsIn x xs → t x ≡ true
all-true t [] h x i = absurd i
all-true t (y ∷ ys) h x (inl e) = ap t e ∙ (and_parts (t y) (list_all t ys) h).0
all-true t (y ∷ ys) h x (inr i) = all-true t ys (and_parts (t y) (list_all t ys) h).1 x i

pub true-all : {A : Type 0} (t : A → Bool) (xs : List A) → ((x : A) → IsIn x xs → t x ≡ true) → list_all t xs ≡ true
true-all t [] each = refl
true-all t (x ∷ xs) each = and_from (t x) (list_all t xs) (each x (inl refl)) (true-all t xs (λ y i. each y (inr i)))

-- two answers are the same where each is yes if the other is
pub same-answers : (a b : Bool) → (a ≡ true → b ≡ true) → (b ≡ true → a ≡ true) → a ≡ b
same-answers true b f g = sym (f refl)
same-answers false true f g = g refl
same-answers false false f g = refl

-- a test that each byte of a range passes
numbers-true : (t : ℕ → Bool) (start count : ℕ) → list_all t (range_with_len start count) ≡ true → (b : ℕ) → start ≤ b → b < start + count → t b ≡ true
numbers-true t start zero h b from to = absurd (omega (arith, from, to))
numbers-true t start (suc count) h b from to = go (cases_lt start b) (λ below. numbers-true t (start + 1) count parts.1 b (omega (arith, below)) (omega (arith, to)))
  where
    parts : (t start ≡ true) × (list_all t (range_with_len (start + 1) count) ≡ true)
    parts = and_parts (t start) (list_all t (range_with_len (start + 1) count)) h

    go : (start < b) ⊎ (b ≤ start) → ((start < b) → t b ≡ true) → t b ≡ true
    go (inl below) behind = behind below
    go (inr above) behind = let same : start ≡ b = omega (arith, from, above) in ap t (sym same) ∙ parts.0

true-numbers : (t : ℕ → Bool) (start count : ℕ) → ((b : ℕ) → start ≤ b → b < start + count → t b ≡ true) → list_all t (range_with_len start count) ≡ true
true-numbers t start zero each = refl
true-numbers t start (suc count) each = and_from (t start) (list_all t (range_with_len (start + 1) count)) (each start (omega arith) (omega arith)) (true-numbers t (start + 1) count (λ b from to. each b (omega (arith, from)) (omega (arith, to))))

pub bytes-true : (t : ℕ → Bool) (r : NativeRange) → list_all t (bytes_of r) ≡ true → AtEachByte (λ b. t b ≡ true) r
bytes-true t r h b from to = numbers-true t r.start (r.end - r.start) h b from (omega (arith, from, to))

pub true-bytes : (t : ℕ → Bool) (r : NativeRange) → AtEachByte (λ b. t b ≡ true) r → list_all t (bytes_of r) ≡ true
true-bytes t r each = true-numbers t r.start (r.end - r.start) (λ b from to. each b from (omega (arith, from, to)))
