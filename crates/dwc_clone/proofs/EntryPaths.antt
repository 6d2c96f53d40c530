-- Entries that are added below the last entry of the depth above theirs.
use Rattle.std.proofs.Common.{◌≡◌, ◌≢◌, ℕ, zero, suc, ◌<◌, ◌≤◌, refl, sym, ap, subst, ◌∙◌, arith, List, [], ◌∷◌, ◌++◌, length, length-append, take, get_or, Bool, true, false, eqb, Option, Some, None}
use Rattle.std.specs.Prelude.{is_some}
use Rattle.std.proofs.lemmas.Bool.{eqb-true, eqb-false}
use Rattle.std.proofs.lemmas.List.{get_or_append_left, get_or_push}
use Rattle.std.proofs.lemmas.List.Elements.{All-push, All-take, All-weaker}
use Rattle.dwc_unit.specs.declared.units.UnitEntryId.{UnitEntryId}
use Rattle.dwc_unit.specs.GivenUnits.{GivenUnit, IsAdded, IsReserved, place_of, with_additions, with_child, with_known, with_next}
use Rattle.dwc_unit.proofs.AddedInOrderUnits.{place-last}
use Rattle.dwc_unit.proofs.NumberLaws.{added-on-child, added-on-known, known-same}
use Rattle.dwc_clone.specs.declared.entry.PlacedEntry.{PlacedEntry}
use Rattle.dwc_clone.specs.ClonedEntries.{AddsBelow, AreKnown, CanAdd, IsLastOf, last_parent}

-- ---- numbers

place-front : (id : ℕ) (ps : List (Option ℕ)) (p : Option ℕ) → is_some (place_of id ps) ≡ true → is_some (place_of id (ps ++ p ∷ [])) ≡ true
place-front id [] p some = absurd (cc)
place-front zero (q ∷ ps) p some = some
place-front (suc id) (q ∷ ps) p some = place-front id ps p some

-- an entry more has the next number
child-places : (parent tag : ℕ) (u : GivenUnit) → (with_child parent tag (with_next u)).places ≡ u.places ++ Some (length u.additions) ∷ []
child-places parent tag u = go (place_of parent (with_next u).places)
  where
    HasNext : GivenUnit → Type 0
    HasNext w = w.places ≡ u.places ++ Some (length u.additions) ∷ []

    go : (o : Option ℕ) → HasNext (elim o [ None ↦ with_next u | Some place ↦ with_additions (u.additions ++ record { parent = place; tag = tag; attributes = [] } ∷ []) (with_next u) ])
    go None = refl
    go (Some place) = refl

added-before : (parent tag id : ℕ) (u : GivenUnit) → IsAdded id u → IsAdded id (with_child parent tag (with_next u))
added-before parent tag id u added = ap (λ ps. is_some (place_of id ps)) (child-places parent tag u) ∙ place-front id u.places (Some (length u.additions)) added

pub added-next : (parent tag : ℕ) (u : GivenUnit) → IsAdded (length u.places) (with_child parent tag (with_next u))
added-next parent tag u = ap (λ ps. is_some (place_of (length u.places) ps)) (child-places parent tag u) ∙ ap is_some (place-last u.places (Some (length u.additions)))

-- An entry stays known where another is added under a number that was reserved, and that is known then.
known-before : (parent tag id k : ℕ) (u : GivenUnit) → IsAdded k u → IsAdded k (with_child parent tag (with_known id u))
known-before parent tag id k u added = added-on-child (with_known id u) k parent tag (added-on-known u k id added)

known-here : (parent tag id : ℕ) (u : GivenUnit) → IsReserved id u → IsAdded id (with_child parent tag (with_known id u))
known-here parent tag id u reserved = added-on-child (with_known id u) id parent tag (ap is_some (known-same u id reserved.0))

-- What is asked of a number, where there is a parent.
pub reserved-below : (depth : ℕ) (parents : List UnitEntryId) (p id : UnitEntryId) (u : GivenUnit) → last_parent depth parents ≡ Some p → CanAdd id parents u → IsReserved id.index u
reserved-below zero [] p id u is can = absurd (cc)
reserved-below (suc depth) [] p id u is can = absurd (cc)
reserved-below depth (q ∷ qs) p id u is can = can

-- An entry that was added is known, and so are its parents.
pub placed-known : (parents : List UnitEntryId) (o : Option UnitEntryId) (id : UnitEntryId) (tag : ℕ) (u0 u : GivenUnit) (placed : PlacedEntry) → AreKnown parents u0 → ((p : UnitEntryId) → o ≡ Some p → IsReserved id.index u0) → AddsBelow o id tag u0 u placed → IsAdded placed.id.index u
placed-known parents None id tag u0 u placed known can adds = subst (λ w. IsAdded placed.id.index w) (sym adds.0) (subst (λ (x : PlacedEntry). IsAdded x.id.index u0) (sym adds.1) known.root)
placed-known parents (Some p) id tag u0 u placed known can adds = subst (λ w. IsAdded placed.id.index w) (sym adds.0) (subst (λ (x : PlacedEntry). IsAdded x.id.index (with_child p.index tag (with_known id.index u0))) (sym adds.1) (known-here p.index tag id.index u0 (can p refl)))

pub parents-known : (parents : List UnitEntryId) (depth : ℕ) (o : Option UnitEntryId) (id : UnitEntryId) (tag : ℕ) (u0 u : GivenUnit) (placed : PlacedEntry) → AreKnown parents u0 → ((p : UnitEntryId) → o ≡ Some p → IsReserved id.index u0) → AddsBelow o id tag u0 u placed → AreKnown (take depth parents ++ placed.id ∷ []) u
parents-known parents depth o id tag u0 u placed known can adds = record {
  root = before o adds 0 known.root;
  others = All-push (λ p. IsAdded p.index u) (take depth parents) placed.id (All-weaker (λ p. IsAdded p.index u0) (λ p. IsAdded p.index u) (λ p added. before o adds p.index added) (take depth parents) (All-take (λ p. IsAdded p.index u0) depth parents known.others)) (placed-known parents o id tag u0 u placed known can adds);
}
  where
    before : (o : Option UnitEntryId) → AddsBelow o id tag u0 u placed → (k : ℕ) → IsAdded k u0 → IsAdded k u
    before None adds k added = subst (λ w. IsAdded k w) (sym adds.0) added
    before (Some p) adds k added = subst (λ w. IsAdded k w) (sym adds.0) (known-before p.index tag id.index k u0 added)

-- ---- the last entry of each depth

-- An entry more, which is deeper, hides no last entry of a depth; it is the last one of its own.
pub last-before : (ds : List ℕ) (d k place : ℕ) → IsLastOf ds k place → k < d → IsLastOf (ds ++ d ∷ []) k place
last-before ds d k place last deeper =
    let within = last.within in
    record {
      within = omega (arith, within, length-append ds (d ∷ []));
      here = get_or_append_left ds (d ∷ []) 0 place within ∙ last.here;
      behind = λ j after low. at j after (omega (arith, low, length-append ds (d ∷ []))) (eqb j (length ds)) refl;
    }
  where
    at : (j : ℕ) → place < j → j ≤ length ds → (b : Bool) → eqb j (length ds) ≡ b → k < get_or (ds ++ d ∷ []) j 0
    at j after low true is = omega (arith, deeper, get_or_push ds d 0 j (sym (eqb-true j (length ds) is)))
    at j after low false is =
        let apart : j ≢ length ds = eqb-false j (length ds) is in
        let within : j < length ds = omega (arith, low, apart) in
        let deep = last.behind j after within in
        omega (arith, deep, get_or_append_left ds (d ∷ []) 0 j within)

pub last-new : (ds : List ℕ) (d : ℕ) → IsLastOf (ds ++ d ∷ []) d (length ds)
last-new ds d = record {
  within = omega (arith, length-append ds (d ∷ []));
  here = get_or_push ds d 0 (length ds) refl;
  behind = λ j after low. absurd (omega (arith, after, low, length-append ds (d ∷ [])));
}
