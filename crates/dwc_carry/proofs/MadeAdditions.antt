-- Entries that stem from none of the input, added one behind another.
use Rattle.std.proofs.Common.{◌≡◌, ℕ, zero, suc, ◌+◌, ◌<◌, List, [], ◌∷◌, ◌++◌, length, length-append, map, drop, get_or, refl, ap, sym, ◌∙◌, subst, arith, Some}
use Rattle.std.proofs.lemmas.List.{drop_more}
use Rattle.std.specs.Prelude.{fold}
use Rattle.dwc_unit.specs.GivenUnits.{Addition, GivenUnit, FitsValue, IsAdded, place_of, places_from, set_attribute, with_child, with_next, with_value}
use Rattle.dwc_unit.specs.AddedInOrder.{with_entry}
use Rattle.dwc_unit.proofs.AddedInOrderUnits.{entry-known, entry-set, places-more}
use Rattle.dwc_unit.proofs.UnitLaws.{child-next}
use Rattle.dwc_clone.specs.GivenAttributes.{Attribute}
use Rattle.dwc_clone.proofs.EntryValues.{value-places}
use Rattle.dwc_carry.specs.declared.made_entries.MadeEntry.{MadeEntry}
use Rattle.dwc_carry.specs.declared.made_entries.MadeValue.{MadeValue}
use Rattle.dwc_carry.specs.declared.made_entries.MadeValue.TheVariants.{Text, Constant, Flag, Entry}
use Rattle.dwc_carry.specs.MadeEntries.{AreBehind, FitsMade, IsDense, addition_of, given_value, with_additions, with_attributes}

-- ---- attributes

-- a value fits
pub fits-given : (size name : ℕ) (v : MadeValue) → FitsMade (name, v) → FitsValue size name (given_value v)
fits-given size name (Text id) fits = tt
fits-given size name (Constant form bits) fits = fits
fits-given size name (Flag b) fits = tt
fits-given size name (Entry place) fits = tt

-- an entry that was given a value was added
pub value-known : (id name : ℕ) (v : MadeValue) (u : GivenUnit) → IsAdded id u → IsAdded id (with_value id name (given_value v) u)
value-known id name v u known = subst (λ ps. Rattle.std.specs.Prelude.is_some (place_of id ps) ≡ Rattle.std.specs.Prelude.true) (sym (value-places id name (given_value v) u)) known

-- ---- entries

-- the attributes of the last entry
pub last-given : (u : GivenUnit) (id parent tag : ℕ) (before : List Attribute) (as' : List (ℕ × MadeValue)) → id ≡ length u.places
    → with_attributes id as' (with_entry (record { parent = parent; tag = tag; attributes = before }) u) ≡ with_entry (record { parent = parent; tag = tag; attributes = fold (λ so_far a. set_attribute a.0 (given_value a.1) so_far) before as' }) u
last-given u id parent tag before [] is = refl
last-given u id parent tag before (a ∷ as') is =
    ap (λ v. with_attributes id as' v) (entry-set u (record { parent = parent; tag = tag; attributes = before }) id a.0 (given_value a.1) is)
    ∙ last-given u id parent tag (set_attribute a.0 (given_value a.1) before) as' is

place-found : (place id : ℕ) (es : List Addition) → id < length es → place_of id (places_from place es) ≡ Some (place + id)
place-found place id [] within = absurd (omega (arith, within))
place-found place zero (e ∷ es) within = ap Some (omega arith)
place-found place (suc id) (e ∷ es) within = place-found (suc place) id es (omega (arith, within)) ∙ ap Some (omega arith)

dense-place : (u : GivenUnit) (id : ℕ) → IsDense u → id < length u.additions → place_of id u.places ≡ Some id
dense-place u id dense within = ap (place_of id) dense ∙ place-found 0 id u.additions within ∙ ap Some (omega arith)

-- an entry below another
dense-child : (u : GivenUnit) (parent tag : ℕ) → IsDense u → parent < length u.additions → with_child parent tag (with_next u) ≡ with_entry (record { parent = parent; tag = tag; attributes = [] }) u
dense-child u parent tag dense within = child-next u parent parent tag (dense-place u parent dense within)

pub parent-known : (u : GivenUnit) (id : ℕ) → IsDense u → id < length u.additions → IsAdded id u
parent-known u id dense within = ap (λ o. Rattle.std.specs.Prelude.is_some o) (dense-place u id dense within)

pub child-known : (u : GivenUnit) (parent tag id : ℕ) → IsDense u → parent < length u.additions → id ≡ length u.places → IsAdded id (with_child parent tag (with_next u))
child-known u parent tag id dense within is = subst (λ v. IsAdded id v) (sym (dense-child u parent tag dense within)) (entry-known u (record { parent = parent; tag = tag; attributes = [] }) id is)

-- An entry that is added and given its attributes is a further one.
pub entry-added : (u : GivenUnit) (e : MadeEntry) (id : ℕ) → IsDense u → e.parent < length u.additions → id ≡ length u.places → with_attributes id e.attributes.now (with_child e.parent e.tag (with_next u)) ≡ with_entry (addition_of e) u
entry-added u e id dense within is =
    ap (λ v. with_attributes id e.attributes.now v) (dense-child u e.parent e.tag dense within)
    ∙ last-given u id e.parent e.tag [] e.attributes.now is

pub entry-dense : (u : GivenUnit) (e : Addition) → IsDense u → IsDense (with_entry e u)
entry-dense u e dense = ap (λ ps. ps ++ Some (length u.additions) ∷ []) dense ∙ sym (places-more 0 u.additions e ∙ ap (λ n. places_from 0 u.additions ++ Some n ∷ []) (omega arith))

-- ---- the next one of some entries

-- an entry is the next of those that are left
pub next-entry : (es : List MadeEntry) (i : ℕ) (d : MadeEntry) → i < length es → drop i es ≡ get_or es i d ∷ drop (i + 1) es
next-entry es i d less = drop_more es i d less

-- its parent stands before it
pub next-behind : (n : ℕ) (left rest : List MadeEntry) (e : MadeEntry) → left ≡ e ∷ rest → AreBehind n left → (e.parent < n) × AreBehind (suc n) rest
next-behind n left rest e is behind = subst (AreBehind n) is behind

-- a unit with the next entry, and those that are left
pub next-added : (u next : GivenUnit) (left rest : List MadeEntry) (e : MadeEntry) → left ≡ e ∷ rest → next ≡ with_entry (addition_of e) u → with_additions (map addition_of rest) next ≡ with_additions (map addition_of left) u
next-added u next left rest e is same = ap (λ v. with_additions (map addition_of rest) v) same ∙ ap (λ es. with_additions (map addition_of es) u) (sym is)

pub next-counted : (u next : GivenUnit) (e : Addition) → next ≡ with_entry e u → length next.additions ≡ suc (length u.additions)
next-counted u next e same = ap (λ (v : GivenUnit). length v.additions) same ∙ length-append u.additions (e ∷ []) ∙ omega arith
