-- The numbers of a unit's entries behind each call that makes it: the place of one, and that what was added or reserved stays so.
use Rattle.std.proofs.Common.{◌≡◌, ◌≢◌, ℕ, zero, suc, ◌<◌, refl, sym, ap, subst, ◌∙◌, arith, List, [], ◌∷◌, ◌++◌, length, length-append, Option, Some, None, Bool, true, false, eqb}
use Rattle.std.specs.Prelude.{is_some, slice_set}
use Rattle.std.specs.List.{All}
use Rattle.std.proofs.lemmas.Bool.{eqb-true, eqb-false}
use Rattle.std.proofs.lemmas.List.{length-set}
use Rattle.dwc_unit.specs.declared.attributes.AttributeValue.{AttributeValue}
use Rattle.dwc_unit.specs.GivenUnits.{Addition, GivenUnit, IsAdded, IsPlaceBelow, IsReserved, place_of, set_in, with_additions, with_child, with_known, with_next, with_reserved, with_value}
use Rattle.dwc_unit.specs.AddedInOrder.{with_entry, with_last}
use Rattle.dwc_unit.specs.Renumbered.{LeadsToEntries}
use Rattle.dwc_unit.proofs.UnitLaws.{child-known, child-next, length-set_in, next-known, none-added, place_here, reserved-known, set-known}
use Rattle.dwc_unit.proofs.AddedInOrderUnits.{place-last}

-- ---- a list of places

pub place-before : (id : ℕ) (ps qs : List (Option ℕ)) → id < length ps → place_of id (ps ++ qs) ≡ place_of id ps
place-before id [] qs within = absurd (omega (arith, within))
place-before zero (p ∷ ps) qs within = refl
place-before (suc id) (p ∷ ps) qs within = place-before id ps qs (omega (arith, within))

-- a number that is not the next one
pub place-not-next : (id : ℕ) (ps : List (Option ℕ)) (p : Option ℕ) → id ≢ length ps → place_of id (ps ++ p ∷ []) ≡ place_of id ps
place-not-next zero [] p other = absurd (other refl)
place-not-next (suc id) [] p other = refl
place-not-next zero (q ∷ ps) p other = refl
place-not-next (suc id) (q ∷ ps) p other = place-not-next id ps p (λ same. other (ap suc same))

-- a number that is only reserved has no place, as one that is not there
pub place-reserved : (id : ℕ) (ps : List (Option ℕ)) → place_of id (ps ++ None ∷ []) ≡ place_of id ps
place-reserved zero [] = refl
place-reserved (suc id) [] = refl
place-reserved zero (p ∷ ps) = refl
place-reserved (suc id) (p ∷ ps) = place-reserved id ps

pub place-set-same : (id : ℕ) (ps : List (Option ℕ)) (p : Option ℕ) → id < length ps → place_of id (slice_set ps id p) ≡ p
place-set-same id [] p within = absurd (omega (arith, within))
place-set-same zero (q ∷ ps) p within = refl
place-set-same (suc id) (q ∷ ps) p within = place-set-same id ps p (omega (arith, within))

pub place-set-other : (id set : ℕ) (ps : List (Option ℕ)) (p : Option ℕ) → id ≢ set → place_of id (slice_set ps set p) ≡ place_of id ps
place-set-other id set [] p other = refl
place-set-other zero zero (q ∷ ps) p other = absurd (other refl)
place-set-other zero (suc set) (q ∷ ps) p other = refl
place-set-other (suc id) zero (q ∷ ps) p other = refl
place-set-other (suc id) (suc set) (q ∷ ps) p other = place-set-other id set ps p (λ same. other (ap suc same))

-- ---- the place of a number behind each call

pub reserved-place : (u : GivenUnit) (id : ℕ) → place_of id (with_reserved u).places ≡ place_of id u.places
reserved-place u id = place-reserved id u.places

pub next-same : (u : GivenUnit) → place_of (length u.places) (with_next u).places ≡ Some (length u.additions)
next-same u = place-last u.places (Some (length u.additions))

pub next-kept : (u : GivenUnit) (id : ℕ) → IsAdded id u → place_of id (with_next u).places ≡ place_of id u.places
next-kept u id added = place-before id u.places (Some (length u.additions) ∷ []) (place_here id u.places added)

pub next-other : (u : GivenUnit) (id : ℕ) → id ≢ length u.places → place_of id (with_next u).places ≡ place_of id u.places
next-other u id other = place-not-next id u.places (Some (length u.additions)) other

pub known-same : (u : GivenUnit) (id : ℕ) → id < length u.places → place_of id (with_known id u).places ≡ Some (length u.additions)
known-same u id within = place-set-same id u.places (Some (length u.additions)) within

pub known-other : (u : GivenUnit) (id known : ℕ) → id ≢ known → place_of id (with_known known u).places ≡ place_of id u.places
known-other u id known other = place-set-other id known u.places (Some (length u.additions)) other

-- A number that is only reserved is not that of an entry that was added, which keeps its place.
pub reserved-apart : (u : GivenUnit) (id other : ℕ) → IsReserved id u → IsAdded other u → other ≢ id
reserved-apart u id other reserved added same = none-added (place_of id u.places) reserved.1 (subst (λ n. is_some (place_of n u.places) ≡ true) same added)

pub known-kept : (u : GivenUnit) (id known : ℕ) → IsReserved known u → IsAdded id u → place_of id (with_known known u).places ≡ place_of id u.places
known-kept u id known reserved added = known-other u id known (reserved-apart u known id reserved added)

-- what is looked at of a unit
abbrev places_in : GivenUnit → List (Option ℕ)
places_in u = u.places

abbrev count_in : GivenUnit → ℕ
count_in u = length u.additions

-- An entry more below a parent, and a value that is set, change no number.
pub child-places : (u : GivenUnit) (parent tag : ℕ) → (with_child parent tag u).places ≡ u.places
child-places u parent tag = go (place_of parent u.places)
  where
    go : (p : Option ℕ) → places_in (elim p [ None ↦ u | Some place ↦ with_additions (u.additions ++ record { parent = place; tag = tag; attributes = [] } ∷ []) u ]) ≡ u.places
    go None = refl
    go (Some place) = refl

pub value-places : (u : GivenUnit) (id name : ℕ) (value : AttributeValue) → (with_value id name value u).places ≡ u.places
value-places u id name value = go (place_of id u.places)
  where
    go : (p : Option ℕ) → places_in (elim p [ None ↦ u | Some place ↦ with_additions (set_in place name value u.additions) u ]) ≡ u.places
    go None = refl
    go (Some place) = refl

pub value-count : (u : GivenUnit) (id name : ℕ) (value : AttributeValue) → length (with_value id name value u).additions ≡ length u.additions
value-count u id name value = go (place_of id u.places)
  where
    go : (p : Option ℕ) → count_in (elim p [ None ↦ u | Some place ↦ with_additions (set_in place name value u.additions) u ]) ≡ length u.additions
    go None = refl
    go (Some place) = length-set_in place name value u.additions

-- ---- an entry that was added stays added

pub added-on-reserved : (u : GivenUnit) (id : ℕ) → IsAdded id u → IsAdded id (with_reserved u)
added-on-reserved u id added = ap is_some (reserved-place u id) ∙ added

pub added-on-next : (u : GivenUnit) (id : ℕ) → IsAdded id u → IsAdded id (with_next u)
added-on-next u id added = ap is_some (next-kept u id added) ∙ added

pub added-on-known : (u : GivenUnit) (id known : ℕ) → IsAdded id u → IsAdded id (with_known known u)
added-on-known u id known added = go (eqb id known) refl
  where
    go : (b : Bool) → eqb id known ≡ b → IsAdded id (with_known known u)
    go true is = subst (λ n. IsAdded id (with_known n u)) (eqb-true id known is) (ap is_some (known-same u id (place_here id u.places added)))
    go false is = ap is_some (known-other u id known (eqb-false id known is)) ∙ added

pub added-on-child : (u : GivenUnit) (id parent tag : ℕ) → IsAdded id u → IsAdded id (with_child parent tag u)
added-on-child u id parent tag added = ap (λ ps. is_some (place_of id ps)) (child-places u parent tag) ∙ added

pub added-on-value : (u : GivenUnit) (id set name : ℕ) (value : AttributeValue) → IsAdded id u → IsAdded id (with_value set name value u)
added-on-value u id set name value added = ap (λ ps. is_some (place_of id ps)) (value-places u set name value) ∙ added

-- ---- a number that is only reserved stays so, until its entry is added

pub reserved-new : (u : GivenUnit) → IsReserved (length u.places) (with_reserved u)
reserved-new u = (omega (arith, length-append {A = Option ℕ} u.places (None ∷ [])), place-last u.places None)

pub reserved-on-reserved : (u : GivenUnit) (id : ℕ) → IsReserved id u → IsReserved id (with_reserved u)
reserved-on-reserved u id reserved =
    let within = reserved.0 in
    (omega (arith, within, length-append {A = Option ℕ} u.places (None ∷ [])), reserved-place u id ∙ reserved.1)

pub reserved-on-next : (u : GivenUnit) (id : ℕ) → IsReserved id u → IsReserved id (with_next u)
reserved-on-next u id reserved =
    let within = reserved.0 in
    (omega (arith, within, length-append u.places (Some (length u.additions) ∷ [])), place-before id u.places (Some (length u.additions) ∷ []) within ∙ reserved.1)

pub reserved-on-known : (u : GivenUnit) (id known : ℕ) → id ≢ known → IsReserved id u → IsReserved id (with_known known u)
reserved-on-known u id known other reserved =
    let within = reserved.0 in
    (omega (arith, within, length-set u.places known (Some (length u.additions))), known-other u id known other ∙ reserved.1)

pub reserved-on-child : (u : GivenUnit) (id parent tag : ℕ) → IsReserved id u → IsReserved id (with_child parent tag u)
reserved-on-child u id parent tag reserved = subst (λ ps. (id < length ps) × (place_of id ps ≡ None)) (sym (child-places u parent tag)) reserved

pub reserved-on-value : (u : GivenUnit) (id set name : ℕ) (value : AttributeValue) → IsReserved id u → IsReserved id (with_value set name value u)
reserved-on-value u id set name value reserved = subst (λ ps. (id < length ps) × (place_of id ps ≡ None)) (sym (value-places u set name value)) reserved

-- ---- an entry that is added with a number that was reserved, or with the next one

-- An entry that is added below another is the last one, whichever number it has.
pub child-last : (u : GivenUnit) (parent place tag : ℕ) → place_of parent u.places ≡ Some place → with_child parent tag u ≡ with_last (record { parent = place; tag = tag; attributes = [] }) u
child-last u parent place tag is = rw (is, with_child) refl

-- The same with the next number, and with one that was reserved, which the parent does not have.
pub child-entry : (u : GivenUnit) (parent place tag : ℕ) → place_of parent u.places ≡ Some place → with_child parent tag (with_next u) ≡ with_entry (record { parent = place; tag = tag; attributes = [] }) u
child-entry u parent place tag is = child-next u parent place tag is

pub child-reserved : (u : GivenUnit) (id parent place tag : ℕ) → place_of parent u.places ≡ Some place → place_of id u.places ≡ None
    → with_child parent tag (with_known id u) ≡ with_last (record { parent = place; tag = tag; attributes = [] }) (with_known id u)
child-reserved u id parent place tag is none = child-known u id parent place tag is none

-- ---- numbers lead to entries that are there

pub leads-reserved : (u : GivenUnit) → LeadsToEntries u → LeadsToEntries (with_reserved u)
leads-reserved u leads = reserved-known (length u.additions) u.places leads

one-more : (es : List Addition) (e : Addition) → length (es ++ e ∷ []) ≡ suc (length es)
one-more es e = omega (arith, length-append es (e ∷ []))

pub leads-known : (u : GivenUnit) (id : ℕ) (e : Addition) → LeadsToEntries u → LeadsToEntries (with_last e (with_known id u))
leads-known u id e leads = subst (λ n. All (IsPlaceBelow n) (with_known id u).places) (sym (one-more u.additions e)) (set-known (length u.additions) id u.places leads)

pub leads-entry : (u : GivenUnit) (e : Addition) → LeadsToEntries u → LeadsToEntries (with_entry e u)
leads-entry u e leads = subst (λ n. All (IsPlaceBelow n) (with_next u).places) (sym (one-more u.additions e)) (next-known (length u.additions) u.places leads)

pub leads-value : (u : GivenUnit) (id name : ℕ) (value : AttributeValue) → LeadsToEntries u → LeadsToEntries (with_value id name value u)
leads-value u id name value leads = subst (λ n. All (IsPlaceBelow n) (with_value id name value u).places) (sym (value-count u id name value)) (subst (λ ps. All (IsPlaceBelow (length u.additions)) ps) (sym (value-places u id name value)) leads)
