-- The keys of types that stand in a ring.
use Rattle.std.proofs.Common.{◌≡◌, ℕ, ◌+◌, ◌<◌, ◌≤◌, refl, sym, ap, subst, ◌∙◌, arith, List, [], ◌∷◌, ◌++◌, Bool, true, false, Some, drop, get_or, length, take, append_assoc, append-nil}
use Rattle.std.specs.Prelude.{◌==◌, if◌then◌else◌}
use Rattle.std.proofs.lemmas.List.{drop_at, drop_more, take_at, take_more}
use Rattle.dwc_rules.specs.Clones.{UnitSource}
use Rattle.dwc_rules.specs.TypeNames.{unknown}
use Rattle.dwc_source.specs.declared.source.CloneSource.{CloneSource}
use Rattle.dwc_types.specs.declared.known_type.DerivedType.{DerivedType}
use Rattle.dwc_types.specs.KeyedTypes.{NamesAround, NamesNext, consts_front, turned_name}
use Rattle.dwc_types.specs.TypeChains.{behind}
use Rattle.dwc_types.specs.TypeRings.{IsTurn, last_type_at, spelt_of}
use Rattle.dwc_types.proofs.RingWalkLaws.{IsTurning, around-here, spelt-append, turned-tags}

-- ---- the type in front of one

pub front-start : (ring : List DerivedType) → last_type_at 0 ring ≡ last_type_at 0 (ring ++ [])
front-start ring = ap (last_type_at 0) (sym (append-nil ring))

last-behind : (offset : ℕ) (ts : List DerivedType) (t : DerivedType) → last_type_at offset (ts ++ t ∷ []) ≡ t.offset
last-behind offset [] t = refl
last-behind offset (u ∷ ts) t = last-behind u.offset ts t

module _ (ring : List DerivedType) (i : ℕ) (d : DerivedType) (inside : i < length ring) where
  abbrev here : DerivedType
  here = get_or ring i d

  -- In front of the next type is this one.
  pub front-more : here.offset ≡ last_type_at 0 (drop (i + 1) ring ++ take (i + 1) ring)
  front-more =
      sym (last-behind 0 (drop (i + 1) ring ++ take i ring) here)
      ∙ ap (last_type_at 0) (append_assoc (drop (i + 1) ring) (take i ring) (here ∷ []) ∙ ap (λ ts. drop (i + 1) ring ++ ts) (sym (take_more ring i d inside)))

  -- In front of this one is the last of all from this one on.
  front-here : last_type_at 0 (drop i ring ++ take i ring) ≡ last_type_at here.offset (drop (i + 1) ring ++ take i ring)
  front-here = ap (λ ts. last_type_at 0 (ts ++ take i ring)) (drop_more ring i d inside)

  -- The tags from this one on are those of all, from where some were passed.
  tags-here : (turn passed : ℕ) → IsTurn turn (spelt_of ring) → IsTurning ring i passed → (let at = if passed == turn then 0 else passed in drop at (spelt_of ring) ++ take at (spelt_of ring)) ≡ spelt_of (here ∷ (drop (i + 1) ring ++ take i ring))
  tags-here turn passed is t = go (passed == turn) refl
    where
      rest : List ℕ
      rest = spelt_of (drop i ring) ++ t.before

      since-passed : drop passed (spelt_of ring) ++ take passed (spelt_of ring) ≡ spelt_of (here ∷ (drop (i + 1) ring ++ take i ring))
      since-passed =
          ap (λ xs. drop passed xs ++ take passed xs) (sym t.whole)
          ∙ ap (λ xs. xs ++ take passed (t.since ++ rest)) (drop_at t.since rest passed t.many)
          ∙ ap (λ xs. rest ++ xs) (take_at t.since rest passed t.many)
          ∙ append_assoc (spelt_of (drop i ring)) t.before t.since
          ∙ ap (λ xs. spelt_of (drop i ring) ++ xs) (sym t.is)
          ∙ sym (spelt-append (drop i ring) (take i ring))
          ∙ ap (λ ts. spelt_of (ts ++ take i ring)) (drop_more ring i d inside)

      go : (b : Bool) → (passed == turn) ≡ b → (let at = if b then 0 else passed in drop at (spelt_of ring) ++ take at (spelt_of ring)) ≡ spelt_of (here ∷ (drop (i + 1) ring ++ take i ring))
      go true full = append-nil (spelt_of ring) ∙ sym (turned-tags ring i d inside turn passed is full t)
      go false other = since-passed

  -- All that go to this one from outside have the name of its key.
  pub key-here : (c : CloneSource) (s : UnitSource) (turn passed consts but : ℕ) → IsTurn turn (spelt_of ring) → IsTurning ring i passed → but ≡ last_type_at 0 (drop i ring ++ take i ring) → NamesAround c s consts ring
      → (id : ℕ) → NamesNext c s (Some (here.offset, id)) but (consts_front consts ++ turned_name (spelt_of ring) (if passed == turn then 0 else passed))
  key-here c s turn passed consts but is t front named id =
      subst (λ n. NamesNext c s (Some (here.offset, id)) n (consts_front consts ++ turned_name (spelt_of ring) (if passed == turn then 0 else passed))) (sym (front ∙ front-here))
      (subst (λ tags. NamesNext c s (Some (here.offset, id)) (last_type_at here.offset (drop (i + 1) ring ++ take i ring)) (consts_front consts ++ (unknown ++ behind tags))) (sym (tags-here turn passed is t)) (named (take i ring) (drop (i + 1) ring) here (around-here ring i d inside) id))

pub index-small : (turn passed i many : ℕ) → passed ≤ i → i < many → (if passed == turn then 0 else passed) < many
index-small turn passed i many small inside = go (passed == turn)
  where
    go : (b : Bool) → (if b then 0 else passed) < many
    go true = omega (arith, inside)
    go false = omega (arith, small, inside)
