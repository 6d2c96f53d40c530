-- What is made of a unit's kept entries is made of groups that stay together: what each entry becomes by itself, and the parts of wrappers.
use Rattle.std.proofs.Common.{◌≡◌, ℕ, ◌<◌, ◌≤◌, List, [], ◌∷◌, ◌++◌, Bool, true, false, refl, sym, ap, subst, ◌∙◌, inl, inr, arith, append_assoc}
use Rattle.std.specs.Prelude.{nat_lt}
use Rattle.std.proofs.lemmas.Bool.{ltb-true, ltb-false}
use Rattle.std.proofs.lemmas.List.{append-nil}
use Rattle.dwc_rules.specs.Kept.{Placed}
use Rattle.dwc_rules.specs.Drafts.{Draft}
use Rattle.dwc_rules.specs.Wrappers.{WrapperSource, is_wrapped, wrapper, wrapper_types, inner, outer, with_wrapper, entries_made}
use Rattle.dwc_base.proofs.InLists.{IsIn}
use Rattle.dwc_rules.proofs.ForestLaws.{Each}
use Rattle.dwc_rules.proofs.WrapperLaws.{inner-below, inner-none, outer-below, outer-all}

-- a group stays together: no entry of it is higher than the first
abbrev pub StaysTogether : List Draft → Type 0
StaysTogether [] = ⊥
StaysTogether (d ∷ ds) = Each (λ x. d.depth ≤ x.depth) ds

-- entries that are made of groups
pub data Groups (P : List Draft → Type 0) : List Draft → Type 0 where
  none : Groups P []
  more : (g rest : List Draft) → P g → Groups P rest → Groups P (g ++ rest)

module _ (P : List Draft → Type 0) (together : (g : List Draft) → P g → StaysTogether g) where
  groups-both : (xs ys : List Draft) → Groups P xs → Groups P ys → Groups P (xs ++ ys)
  groups-both xs ys none k = k
  groups-both xs ys (more g rest p h) k = subst (Groups P) (sym (append_assoc g rest ys)) (more g (rest ++ ys) p (groups-both rest ys h k))

  groups-one : (g : List Draft) → P g → Groups P g
  groups-one g p = subst (Groups P) (append-nil g) (more g [] p none)

  -- a group that lies below a depth is taken whole, and so it is passed
  inner-group : (depth : ℕ) (g rest : List Draft) → Each (λ x. depth < x.depth) g → inner depth (g ++ rest) ≡ g ++ inner depth rest
  inner-group depth [] rest h = refl
  inner-group depth (d ∷ g) rest h = inner-below depth d (g ++ rest) h.0 ∙ ap (λ xs. d ∷ xs) (inner-group depth g rest h.1)

  outer-group : (depth : ℕ) (g rest : List Draft) → Each (λ x. depth < x.depth) g → outer depth (g ++ rest) ≡ outer depth rest
  outer-group depth [] rest h = refl
  outer-group depth (d ∷ g) rest h = outer-below depth d (g ++ rest) h.0 ∙ outer-group depth g rest h.1

  all-below : (depth n : ℕ) (ds : List Draft) → depth < n → Each (λ x. n ≤ x.depth) ds → Each (λ x. depth < x.depth) ds
  all-below depth n [] low h = tt
  all-below depth n (d ∷ ds) low h = (omega (arith, low, h.0), all-below depth n ds low h.1)

  -- where entries are cut at a depth, no group is
  groups-cut : (depth : ℕ) (ds : List Draft) → Groups P ds → Groups P (inner depth ds) × Groups P (outer depth ds)
  groups-cut depth ds none = (none, none)
  groups-cut depth ds (more [] rest p h) = absurd (together [] p)
  groups-cut depth ds (more (d ∷ g) rest p h) = go (nat_lt depth d.depth) refl (groups-cut depth rest h)
    where
      go : (b : Bool) → nat_lt depth d.depth ≡ b → Groups P (inner depth rest) × Groups P (outer depth rest) → Groups P (inner depth (d ∷ g ++ rest)) × Groups P (outer depth (d ∷ g ++ rest))
      go true is behind =
          let low : depth < d.depth = ltb-true depth d.depth is in
          let all : Each (λ x. depth < x.depth) (d ∷ g) = (low, all-below depth d.depth g low (together (d ∷ g) p)) in
          (subst (Groups P) (sym (inner-group depth (d ∷ g) rest all)) (more (d ∷ g) (inner depth rest) p behind.0), subst (Groups P) (sym (outer-group depth (d ∷ g) rest all)) behind.1)
      go false is behind =
          let high : d.depth ≤ depth = ltb-false depth d.depth is in
          (subst (Groups P) (sym (inner-none depth d (g ++ rest) high)) none, subst (Groups P) (sym (outer-all depth d (g ++ rest) high)) (more (d ∷ g) rest p h))

  -- What is made of kept entries is made of groups, where what each becomes is one, and both parts of a wrapper are.
  pub groups-made : (s : WrapperSource) (clone : Placed → List Draft) (es : List Placed) → ((e : Placed) → IsIn e es → is_wrapped s.output e ≡ false → P (clone e)) → ((e : Placed) → IsIn e es → is_wrapped s.output e ≡ true → P (wrapper s e) × P (wrapper_types s e)) → Groups P (entries_made s clone es)
  unfolding entries_made
  groups-made s clone [] plain wrapped = none
  groups-made s clone (e ∷ es) plain wrapped = go (is_wrapped s.output e) refl (groups-made s clone es (λ f i. plain f (inr i)) (λ f i. wrapped f (inr i)))
    where
      go : (b : Bool) → is_wrapped s.output e ≡ b → Groups P (entries_made s clone es) → Groups P (elim b [ true ↦ with_wrapper s e (entries_made s clone es) | false ↦ clone e ++ entries_made s clone es ])
      go false is behind = more (clone e) (entries_made s clone es) (plain e (inl refl) is) behind
      go true is behind =
          let parts = wrapped e (inl refl) is in
          let cut = groups-cut e.entry.depth (entries_made s clone es) behind in
          let inside = inner e.entry.depth (entries_made s clone es) in
          let outside = outer e.entry.depth (entries_made s clone es) in
          more (wrapper s e) (inside ++ (wrapper_types s e ++ outside)) parts.0 (groups-both inside (wrapper_types s e ++ outside) cut.0 (more (wrapper_types s e) outside parts.1 cut.1))
