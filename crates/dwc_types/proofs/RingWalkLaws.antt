-- Walks along the types of a ring: over those that are kept, and over the tags of those that were read.
use Rattle.std.proofs.Common.{◌≡◌, ℕ, ◌+◌, ◌<◌, ◌≤◌, refl, sym, ap, subst, ◌∙◌, arith, List, [], ◌∷◌, ◌++◌, take, drop, get_or, length, Bool, true, false, append_assoc, append-nil}
use Rattle.std.specs.Prelude.{◌==◌, ◌≢◌, if◌then◌else◌}
use Rattle.std.proofs.lemmas.Bool.{eqb-true}
use Rattle.std.proofs.lemmas.List.{drop_at, drop_more, length-append, take-append-drop, take_at, take_more}
use Rattle.dwc_base.specs.declared.constants.TheConstants.{DW_TAG_const_type}
use Rattle.dwc_types.specs.declared.known_type.DerivedType.{DerivedType}
use Rattle.dwc_types.specs.declared.known_type.KnownTypes.{KnownTypes}
use Rattle.dwc_types.specs.TypeRings.{IsPath, IsStep, IsTurn, passed_with, spelt_of}

-- ---- types that are kept

-- A step more behind a path.
pub path-more : (types : KnownTypes) (own from at : ℕ) (ts : List DerivedType) (t : DerivedType) → IsPath types own from ts at → (step : IsStep types at t) → step.next.offset ≢ own → IsPath types own from (ts ++ t ∷ []) step.next.offset
path-more types own from at [] t path step apart =
    (record { here = record { place = step.here.place; kept = step.here.kept; at = step.here.at ∙ sym path }; next = step.next; next_is = step.next_is }, apart, refl)
path-more types own from at (u ∷ ts) t path step apart = (path.0, path.1, path-more types own path.0.next.offset at ts t path.2 step apart)

-- ---- turns

pub spelt-append : (xs ys : List DerivedType) → spelt_of (xs ++ ys) ≡ spelt_of xs ++ spelt_of ys
spelt-append [] ys = refl
spelt-append (x ∷ xs) ys = go (x.tag == DW_TAG_const_type) (spelt-append xs ys)
  where
    go : (b : Bool) → spelt_of (xs ++ ys) ≡ spelt_of xs ++ spelt_of ys → (if b then spelt_of (xs ++ ys) else x.tag ∷ spelt_of (xs ++ ys)) ≡ (if b then spelt_of xs else x.tag ∷ spelt_of xs) ++ spelt_of ys
    go true same = same
    go false same = ap (λ zs. x.tag ∷ zs) same

pub passed-small : (tag turn passed i : ℕ) → passed ≤ i → passed_with tag turn passed ≤ i + 1
passed-small tag turn passed i small = go (tag == DW_TAG_const_type) (passed == turn)
  where
    go : (a b : Bool) → (if a then passed else (if b then 1 else passed + 1)) ≤ i + 1
    go true b = omega (arith, small)
    go false true = omega arith
    go false false = omega (arith, small)

-- Of the tags of the types up to a place some are passed since the last whole turn; from these on all tags are the same.
pub record IsTurning (ring : List DerivedType) (i passed : ℕ) : Type 0 where
  pub before : List ℕ
  pub since : List ℕ
  pub is : spelt_of (take i ring) ≡ before ++ since
  pub many : length since ≡ passed
  pub whole : since ++ (spelt_of (drop i ring) ++ before) ≡ spelt_of ring

pub turning-start : (ring : List DerivedType) → IsTurning ring 0 0
turning-start ring = record { before = []; since = []; is = refl; many = refl; whole = append-nil (spelt_of ring) }

module _ (ring : List DerivedType) (i : ℕ) (d : DerivedType) (inside : i < length ring) where
  abbrev here : DerivedType
  here = get_or ring i d

  spelt-front : spelt_of (take (i + 1) ring) ≡ spelt_of (take i ring) ++ spelt_of (here ∷ [])
  spelt-front = ap spelt_of (take_more ring i d inside) ∙ spelt-append (take i ring) (here ∷ [])

  spelt-left : spelt_of (drop i ring) ≡ spelt_of (here ∷ []) ++ spelt_of (drop (i + 1) ring)
  spelt-left = ap spelt_of (drop_more ring i d inside) ∙ spelt-append (here ∷ []) (drop (i + 1) ring)

  turning-const : (passed : ℕ) → (here.tag == DW_TAG_const_type) ≡ true → IsTurning ring i passed → IsTurning ring (i + 1) passed
  turning-const passed const t =
      let none : spelt_of (here ∷ []) ≡ [] = ap (λ b. if b then [] else here.tag ∷ []) const in
      record {
        before = t.before;
        since = t.since;
        is = spelt-front ∙ ap (λ xs. spelt_of (take i ring) ++ xs) none ∙ append-nil (spelt_of (take i ring)) ∙ t.is;
        many = t.many;
        whole = ap (λ xs. t.since ++ (xs ++ t.before)) (sym (spelt-left ∙ ap (λ xs. xs ++ spelt_of (drop (i + 1) ring)) none)) ∙ t.whole;
      }

  turning-other : (passed : ℕ) → (here.tag == DW_TAG_const_type) ≡ false → IsTurning ring i passed → IsTurning ring (i + 1) (passed + 1)
  turning-other passed other t =
      let one : spelt_of (here ∷ []) ≡ here.tag ∷ [] = ap (λ b. if b then [] else here.tag ∷ []) other in
      record {
        before = t.before;
        since = t.since ++ here.tag ∷ [];
        is = spelt-front ∙ ap (λ xs. xs ++ spelt_of (here ∷ [])) t.is ∙ ap (λ xs. (t.before ++ t.since) ++ xs) one ∙ append_assoc t.before t.since (here.tag ∷ []);
        many = length-append t.since (here.tag ∷ []) ∙ ap (λ n. n + 1) t.many;
        whole =
            append_assoc t.since (here.tag ∷ []) (spelt_of (drop (i + 1) ring) ++ t.before)
            ∙ ap (λ xs. t.since ++ (xs ++ t.before)) (sym (spelt-left ∙ ap (λ xs. xs ++ spelt_of (drop (i + 1) ring)) one))
            ∙ t.whole;
      }

  -- Where a whole turn was passed the tags from the next type on are the same.
  turned-left : (turn passed : ℕ) → IsTurn turn (spelt_of ring) → (passed == turn) ≡ true → IsTurning ring i passed → spelt_of (drop i ring) ++ spelt_of (take i ring) ≡ spelt_of ring
  turned-left turn passed is full t =
      let rest = spelt_of (drop i ring) ++ t.before in
      let many : length t.since ≡ turn = t.many ∙ eqb-true passed turn full in
      ap (λ xs. spelt_of (drop i ring) ++ xs) t.is
      ∙ sym (append_assoc (spelt_of (drop i ring)) t.before t.since)
      ∙ ap (λ xs. rest ++ xs) (sym (take_at t.since rest turn many))
      ∙ ap (λ xs. xs ++ take turn (t.since ++ rest)) (sym (drop_at t.since rest turn many))
      ∙ subst (IsTurn turn) (sym t.whole) is
      ∙ t.whole

  turning-again : (turn passed : ℕ) → IsTurn turn (spelt_of ring) → (passed == turn) ≡ true → IsTurning ring i passed → IsTurning ring i 0
  turning-again turn passed is full t = record {
    before = spelt_of (take i ring);
    since = [];
    is = sym (append-nil (spelt_of (take i ring)));
    many = refl;
    whole = turned-left turn passed is full t;
  }

  -- So it is behind the next type.
  pub turning-more : (turn passed : ℕ) → IsTurn turn (spelt_of ring) → IsTurning ring i passed → IsTurning ring (i + 1) (passed_with here.tag turn passed)
  turning-more turn passed is t = go (here.tag == DW_TAG_const_type) refl (passed == turn) refl
    where
      go : (a : Bool) → (here.tag == DW_TAG_const_type) ≡ a → (b : Bool) → (passed == turn) ≡ b → IsTurning ring (i + 1) (if a then passed else (if b then 1 else passed + 1))
      go true const b full = turning-const passed const t
      go false other true full = turning-other 0 other (turning-again turn passed is full t)
      go false other false full = turning-other passed other t

  pub turned-tags : (turn passed : ℕ) → IsTurn turn (spelt_of ring) → (passed == turn) ≡ true → IsTurning ring i passed → spelt_of (here ∷ (drop (i + 1) ring ++ take i ring)) ≡ spelt_of ring
  turned-tags turn passed is full t =
      ap (λ xs. spelt_of (xs ++ take i ring)) (sym (drop_more ring i d inside)) ∙ spelt-append (drop i ring) (take i ring) ∙ turned-left turn passed is full t

  pub around-here : ring ≡ take i ring ++ here ∷ drop (i + 1) ring
  around-here = sym (take-append-drop i ring) ∙ ap (λ xs. take i ring ++ xs) (drop_more ring i d inside)
