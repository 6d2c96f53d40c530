-- The last entries of each depth of a unit of drafts, below which the next one is added.
use Rattle.std.proofs.Common.{◌≡◌, ℕ, zero, suc, ◌+◌, ◌-◌, ◌<◌, ◌≤◌, refl, sym, ap, subst, ◌∙◌, arith, List, [], ◌∷◌, ◌++◌, length, length-append, take, true, Option, Some, None}
use Rattle.std.specs.Prelude.{is_some, slice_get}
use Rattle.std.proofs.lemmas.List.{length-take-le}
use Rattle.dwc_dwarf.specs.Entries.{Entry}
use Rattle.dwc_kept.specs.KeptUnits.{AreBelow}
use Rattle.dwc_unit.specs.declared.units.UnitEntryId.{UnitEntryId}
use Rattle.dwc_unit.specs.GivenUnits.{GivenUnit}
use Rattle.dwc_clone.specs.ClonedUnits.{depths_of}
use Rattle.dwc_clone.specs.ClonedEntries.{ArePath, CanFollow, IsLastAt, last_parent}

module _ (ds : List ℕ) (u : GivenUnit) where
  pub path-front : (k n : ℕ) (ps : List UnitEntryId) → ArePath ds k u ps → ArePath ds k u (take n ps)
  path-front k zero ps path = tt
  path-front k (suc n) [] path = tt
  path-front k (suc n) (p ∷ ps) path = (path.0, path-front (suc k) n ps path.1)

  pub path-push : (k : ℕ) (ps : List UnitEntryId) (id : UnitEntryId) → ArePath ds k u ps → IsLastAt ds (k + length ps) u id → ArePath ds k u (ps ++ id ∷ [])
  path-push k [] id path last = (subst (λ n. IsLastAt ds n u id) (omega arith) last, tt)
  path-push k (p ∷ ps) id path last = (path.0, path-push (suc k) ps id path.1 (subst (λ n. IsLastAt ds n u id) (omega arith) last))

  path-at : (k i : ℕ) (ps : List UnitEntryId) (p : UnitEntryId) → ArePath ds k u ps → slice_get ps i ≡ Some p → IsLastAt ds (k + i) u p
  path-at k i [] p path is = absurd (none-some is)
    where
      none-some : {A : Type 0} {x : A} → None ≡ Some x → ⊥
      none-some e = absurd (cc)
  path-at k zero (q ∷ ps) p path is = subst (λ (r : UnitEntryId). IsLastAt ds (k + 0) u r) (some-same is) (subst (λ n. IsLastAt ds n u q) (omega arith) path.0)
    where
      some-same : {A : Type 0} {x y : A} → Some x ≡ Some y → x ≡ y
      some-same e = cc
  path-at k (suc i) (q ∷ ps) p path is = subst (λ n. IsLastAt ds n u p) (omega arith) (path-at (suc k) i ps p path.1 is)

get-taken : (n i : ℕ) (ps : List UnitEntryId) → i < n → slice_get (take n ps) i ≡ slice_get ps i
get-taken zero i ps low = absurd (omega (arith, low))
get-taken (suc n) i [] low = refl
get-taken (suc n) zero (p ∷ ps) low = refl
get-taken (suc n) (suc i) (p ∷ ps) low = get-taken n i ps (omega (arith, low))

get-some : (i : ℕ) (ps : List UnitEntryId) → i < length ps → is_some (slice_get ps i) ≡ true
get-some i [] within = absurd (omega (arith, within))
get-some zero (p ∷ ps) within = refl
get-some (suc i) (p ∷ ps) within = get-some i ps (omega (arith, within))

-- What an entry of a depth is added below is the last one of the depth above it.
pub record HasParent (ds : List ℕ) (depth : ℕ) (u : GivenUnit) (o : Option UnitEntryId) : Type 0 where
  pub parent : UnitEntryId
  pub is : o ≡ Some parent
  pub last : IsLastAt ds (depth - 1) u parent

pub parent-of : (ds : List ℕ) (depth : ℕ) (u : GivenUnit) (ps : List UnitEntryId) → ArePath ds 0 u (take depth ps) → 0 < depth → depth ≤ length ps → HasParent ds depth u (last_parent depth ps)
parent-of ds depth u ps path below fits =
    let place = ap (λ n. slice_get (take depth ps) (n - 1)) (length-take-le depth ps fits) in
    subst (HasParent ds depth u) (sym place) (go (slice_get (take depth ps) (depth - 1)) refl (get-some (depth - 1) (take depth ps) (omega (arith, below, length-take-le depth ps fits))))
  where
    go : (o : Option UnitEntryId) → slice_get (take depth ps) (depth - 1) ≡ o → is_some o ≡ true → HasParent ds depth u o
    go None is some = absurd (cc)
    go (Some p) is some = record { parent = p; is = refl; last = subst (λ n. IsLastAt ds n u p) (omega arith) (path-at ds u 0 (depth - 1) (take depth ps) p path is) }

pub path-long : (depth : ℕ) (ps : List UnitEntryId) (id : UnitEntryId) → depth ≤ length ps → length (take depth ps ++ id ∷ []) ≡ suc depth
path-long depth ps id fits = length-append (take depth ps) (id ∷ []) ∙ ap (λ n. n + 1) (length-take-le depth ps fits) ∙ omega arith

-- Entries that can follow an entry of a depth.
pub follow-from : (qs : List UnitEntryId) (depth : ℕ) (others : List Entry) → length qs ≡ suc depth → AreBelow depth (depths_of others) → CanFollow qs others
follow-from [] depth others long below = absurd (omega (arith, long))
follow-from (q ∷ qs) depth others long below = subst (λ n. AreBelow n (depths_of others)) (omega (arith, long)) below
