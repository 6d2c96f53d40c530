-- The derived types that are kept: which of them were met on a chain, and how many are left.
use Rattle.std.proofs.Common.{◌≡◌, ℕ, zero, suc, ◌+◌, ◌-◌, ◌^◌, ◌<◌, ◌≤◌, refl, sym, ap, subst, ◌∙◌, arith, List, [], ◌∷◌, ◌++◌, length, set, get_or, Bool, true, false, Option, Some, None, inl, inr}
use Rattle.std.specs.Prelude.{◌==◌, ◌||◌, ◌&&◌, ◌⊎◌, if◌then◌else◌, slice_get}
use Rattle.std.specs.List.{sum_by}
use Rattle.std.proofs.lemmas.Bool.{eq-eqb, ne_eqb}
use Rattle.std.proofs.lemmas.List.{length-append, length-set}
use Rattle.std.proofs.lemmas.List.Sums.{sum_by-append, sum_by-set}
use Rattle.std.proofs.lemmas.Option.{slice_get_within, get_or_from_slice_get}
use Rattle.dwc_types.specs.declared.known_type.DerivedType.{DerivedType}
use Rattle.dwc_types.specs.DerivedTypes.{AddsUnmet, at_walk, is_at, is_found, met_in, room}

-- ---- the type at a place

-- A derived type stands at a place, and is that at an offset.
pub record StandsAt (types : List DerivedType) (place offset : ℕ) : Type 0 where
  pub type : DerivedType
  pub at : slice_get types place ≡ Some type
  pub is : (type.offset == offset) ≡ true
  pub inside : place < length types

pub stands-at : (types : List DerivedType) (place offset : ℕ) → is_at types place offset ≡ true → StandsAt types place offset
stands-at types place offset is = go (slice_get types place) refl is
  where
    go : (o : Option DerivedType) → slice_get types place ≡ o → is_found o offset ≡ true → StandsAt types place offset
    go None at is = absurd (cc)
    go (Some t) at is = record { type = t; at = at; is = is; inside = slice_get_within types place t at }

-- What stands at a place behind one more.
pub at-behind : (types : List DerivedType) (t x : DerivedType) (place : ℕ) → slice_get (types ++ t ∷ []) place ≡ Some x → (slice_get types place ≡ Some x) ⊎ ((place ≡ length types) × (t ≡ x))
at-behind [] t x zero is = inr (refl, some-is is)
  where
    some-is : ◌≡◌ {A = Option DerivedType} (Some t) (Some x) → t ≡ x
    some-is h = ap (λ (o : Option DerivedType). elim o [ None ↦ t | Some y ↦ y ]) h
at-behind [] t x (suc place) is = absurd (cc)
at-behind (y ∷ types) t x zero is = inl is
at-behind (y ∷ types) t x (suc place) is = go (at-behind types t x place is)
  where
    go : (slice_get types place ≡ Some x) ⊎ ((place ≡ length types) × (t ≡ x)) → (slice_get types place ≡ Some x) ⊎ ((suc place ≡ suc (length types)) × (t ≡ x))
    go (inl at) = inl at
    go (inr at) = inr (ap suc at.0, at.1)

pub at-last : (types : List DerivedType) (t : DerivedType) → slice_get (types ++ t ∷ []) (length types) ≡ Some t
at-last [] t = refl
at-last (y ∷ types) t = at-last types t

-- What stands at a place where one is changed.
pub at-changed : (types : List DerivedType) (t x : DerivedType) (place other : ℕ) → slice_get (set types place t) other ≡ Some x → (slice_get types other ≡ Some x) ⊎ ((other ≡ place) × (t ≡ x))
at-changed [] t x place other is = absurd (cc)
at-changed (y ∷ types) t x zero zero is = inr (refl, ap (λ (o : Option DerivedType). elim o [ None ↦ t | Some y ↦ y ]) is)
at-changed (y ∷ types) t x zero (suc other) is = inl is
at-changed (y ∷ types) t x (suc place) zero is = inl is
at-changed (y ∷ types) t x (suc place) (suc other) is = go (at-changed types t x place other is)
  where
    go : (slice_get types other ≡ Some x) ⊎ ((other ≡ place) × (t ≡ x)) → (slice_get types other ≡ Some x) ⊎ ((suc other ≡ suc place) × (t ≡ x))
    go (inl at) = inl at
    go (inr at) = inr (ap suc at.0, at.1)

-- ---- those that were met

-- whether one of them was met on the chain of a number, and is that at an offset
abbrev meets_at : ℕ → ℕ → DerivedType → Bool
meets_at walk offset t = (t.walk == walk) && (t.offset == offset)

either : (a b c : Bool) → b ≡ c → (a || b) ≡ (a || c)
either a b c same = ap (λ d. a || d) same

pub met-behind : (walk : ℕ) (types : List DerivedType) (t : DerivedType) (offset : ℕ) → (t.walk == walk) ≡ false → met_in walk (types ++ t ∷ []) offset ≡ met_in walk types offset
met-behind walk [] t offset unmet = ap (λ b. (b && (t.offset == offset)) || false) unmet
met-behind walk (x ∷ types) t offset unmet = either (meets_at walk offset x) _ _ (met-behind walk types t offset unmet)

pub met-changed : (walk : ℕ) (types : List DerivedType) (place : ℕ) (t : DerivedType) (offset : ℕ) → slice_get types place ≡ Some t → met_in walk (set types place (at_walk walk t)) offset ≡ ((t.offset == offset) || met_in walk types offset)
met-changed walk [] place t offset at = absurd (cc)
met-changed walk (x ∷ types) zero t offset at =
    let same : x ≡ t = ap (λ (o : Option DerivedType). elim o [ None ↦ x | Some y ↦ y ]) at in
    ap (λ b. (b && (t.offset == offset)) || met_in walk types offset) (eq-eqb walk walk refl)
    ∙ twice (t.offset == offset) (t.walk == walk) (met_in walk types offset)
    ∙ ap (λ y. (t.offset == offset) || (meets_at walk offset y || met_in walk types offset)) (sym same)
  where
    twice : (a b d : Bool) → (a || d) ≡ (a || ((b && a) || d))
    twice true b d = refl
    twice false true d = refl
    twice false false d = refl
met-changed walk (x ∷ types) (suc place) t offset at =
    either (meets_at walk offset x) _ _ (met-changed walk types place t offset at) ∙ moved (meets_at walk offset x) (t.offset == offset) (met_in walk types offset)
  where
    moved : (a b d : Bool) → (a || (b || d)) ≡ (b || (a || d))
    moved true true d = refl
    moved true false d = refl
    moved false b d = refl

-- One that was met.
pub met-at : (walk : ℕ) (types : List DerivedType) (place : ℕ) (t : DerivedType) (offset : ℕ) → slice_get types place ≡ Some t → (t.offset == offset) ≡ true → (t.walk == walk) ≡ true → met_in walk types offset ≡ true
met-at walk [] place t offset at is met = absurd (cc)
met-at walk (x ∷ types) zero t offset at is met =
    let same : x ≡ t = ap (λ (o : Option DerivedType). elim o [ None ↦ x | Some y ↦ y ]) at in
    ap (λ y. meets_at walk offset y || met_in walk types offset) same ∙ ap (λ b. (b && (t.offset == offset)) || met_in walk types offset) met ∙ ap (λ b. b || met_in walk types offset) is
met-at walk (x ∷ types) (suc place) t offset at is met = either (meets_at walk offset x) _ _ (met-at walk types place t offset at is met) ∙ or-true (meets_at walk offset x)
  where
    or-true : (b : Bool) → (b || true) ≡ true
    or-true true = refl
    or-true false = refl

-- None was met, where each that stands somewhere was not.
pub unmet-all : (walk : ℕ) (types : List DerivedType) (offset : ℕ) → ((place : ℕ) (t : DerivedType) → slice_get types place ≡ Some t → (t.offset == offset) ≡ true → (t.walk == walk) ≡ false) → met_in walk types offset ≡ false
unmet-all walk [] offset each = refl
unmet-all walk (x ∷ types) offset each =
    ap (λ b. b || met_in walk types offset) (go (x.offset == offset) (x.walk == walk) (each zero x refl)) ∙ unmet-all walk types offset (λ place t at. each (suc place) t at)
  where
    go : (a b : Bool) → (a ≡ true → b ≡ false) → (b && a) ≡ false
    go a false h = refl
    go true true h = h refl
    go false true h = refl

pub unmet-away : (walk : ℕ) (types : List DerivedType) (offset : ℕ) → ((place : ℕ) → is_at types place offset ≡ false) → met_in walk types offset ≡ false
unmet-away walk types offset away = unmet-all walk types offset (λ place t at is. absurd (contrary (sym (away place) ∙ ap (λ o. is_found o offset) at ∙ is)))
  where
    contrary : ◌≡◌ {A = Bool} false true → ⊥
    contrary h = absurd (cc)

-- ---- how many are left

-- one that was not met
abbrev left_one : ℕ → DerivedType → ℕ
left_one walk t = if t.walk == walk then 0 else 1

at-most-one : (b : Bool) → 0 + (if b then 0 else 1) ≤ 1
at-most-one true = omega arith
at-most-one false = omega arith

room-less : (most a b d k : ℕ) → a < most → b ≡ a + 1 → k ≤ 1 → (most - b) + (d + k) ≤ (most - a) + d
room-less most a b d k below is one = omega (arith, below, is, one)

pub room-behind : (walk : ℕ) (types : List DerivedType) (t : DerivedType) → length types < 2 ^ 64 → room walk (types ++ t ∷ []) ≤ room walk types
room-behind walk types t below =
    subst (λ n. (2 ^ 64 - length (types ++ t ∷ [])) + n ≤ room walk types) (sym (sum_by-append (left_one walk) types (t ∷ [])))
    (room-less (2 ^ 64) (length types) (length (types ++ t ∷ [])) (sum_by (left_one walk) types) (sum_by (left_one walk) (t ∷ [])) below (length-append types (t ∷ [])) (at-most-one (t.walk == walk)))

pub room-changed : (walk : ℕ) (types : List DerivedType) (place : ℕ) (t : DerivedType) → slice_get types place ≡ Some t → (t.walk == walk) ≡ false → room walk (set types place (at_walk walk t)) < room walk types
room-changed walk types place t at unmet =
    let f : DerivedType → ℕ = left_one walk in
    let left : f (get_or types place t) ≡ 1 = ap f (get_or_from_slice_get types place t t at) ∙ ap (λ b. if b then 0 else 1) unmet in
    let done : f (at_walk walk t) ≡ 0 = ap (λ b. if b then 0 else 1) (eq-eqb walk walk refl) in
    let all : sum_by f (set types place (at_walk walk t)) + f (get_or types place t) ≡ sum_by f types + f (at_walk walk t) = sum_by-set f types place (at_walk walk t) t (slice_get_within types place t at) in
    fewer (2 ^ 64) (length types) (length (set types place (at_walk walk t))) (sum_by f types) (sum_by f (set types place (at_walk walk t))) _ _ (length-set types place (at_walk walk t)) all left done
  where
    fewer : (most a b s more one none : ℕ) → b ≡ a → more + one ≡ s + none → one ≡ 1 → none ≡ 0 → (most - b) + more < (most - a) + s
    fewer most a b s more one none same all one_is none_is = omega (arith, same, all, one_is, none_is)

-- One is added that was met on no chain.
pub adds-one : (types : List DerivedType) (t : DerivedType) → t.walk ≡ 0 → length types < 2 ^ 64 → AddsUnmet types (types ++ t ∷ [])
adds-one types t none below = record {
  marks = λ walk offset counted. met-behind walk types t offset (ne_eqb t.walk walk (λ same. omega (arith, none, same, counted)));
  fewer = λ walk. room-behind walk types t below;
}

pub adds-none : (types : List DerivedType) → AddsUnmet types types
adds-none types = record { marks = λ walk offset counted. refl; fewer = λ walk. omega arith }
