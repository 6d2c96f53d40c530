-- Units whose entries are added in file order: the calls that make them keep them so. `in-order-root`, `in-order-more`, `in-order-set`.
use Rattle.std.proofs.Common.{◌≡◌, ◌≢◌, ℕ, zero, suc, ◌+◌, ◌<◌, ◌≤◌, refl, sym, ap, subst, ◌∙◌, arith, List, [], ◌∷◌, ◌++◌, length, length-append, get_or, Bool, true, false, eqb, Option, Some, None}
use Rattle.std.specs.Prelude.{is_some}
use Rattle.std.specs.List.{All}
use Rattle.std.proofs.lemmas.Bool.{eqb-true, eqb-false}
use Rattle.std.proofs.lemmas.List.{get_or_append_left}
use Rattle.std.proofs.lemmas.List.Elements.{All-cons, All-nil}
use Rattle.dwc_unit.specs.declared.attributes.AttributeValue.{AttributeValue}
use Rattle.dwc_unit.specs.GivenLines.{GivenLines}
use Rattle.dwc_unit.specs.GivenUnits.{Addition, GivenUnit, IsAdded, IsPlaceBelow, new_unit, place_of, places_from, set_in, set_in_addition, with_additions, with_child, with_next, with_value}
use Rattle.dwc_unit.specs.FileOrders.{no_addition}
use Rattle.dwc_unit.specs.AddedInOrder.{IsParent, AreInOrder, IsInOrder, IsNumberedByPlaces, with_entry, with_last}
use Rattle.dwc_unit.specs.Renumbered.{LeadsToEntries}
use Rattle.dwc_unit.proofs.UnitLaws.{child-next, length-set_in, value-placed}

-- ---- an entry more

-- a value is given to the last entry
pub set_in-last : (es : List Addition) (e : Addition) (name : ℕ) (value : AttributeValue) → set_in (length es) name value (es ++ e ∷ []) ≡ es ++ set_in_addition name value e ∷ []
set_in-last [] e name value = refl
set_in-last (x ∷ es) e name value = ap (λ xs. x ∷ xs) (set_in-last es e name value)

-- places of one entry more
pub places-more : (place : ℕ) (es : List Addition) (e : Addition) → places_from place (es ++ e ∷ []) ≡ places_from place es ++ Some (place + length es) ∷ []
places-more place [] e = ap (λ n. Some n ∷ []) (omega arith)
places-more place (x ∷ es) e = ap (λ ps. Some place ∷ ps) (places-more (suc place) es e ∙ ap (λ n. places_from (suc place) es ++ Some n ∷ []) (omega arith))

pub place-last : (ps : List (Option ℕ)) (p : Option ℕ) → place_of (length ps) (ps ++ p ∷ []) ≡ p
place-last [] p = refl
place-last (q ∷ ps) p = place-last ps p

-- A value that is set in the last entry is in that entry.
pub last-set : (u : GivenUnit) (e : Addition) (id name : ℕ) (value : AttributeValue) → place_of id u.places ≡ Some (length u.additions) → with_value id name value (with_last e u) ≡ with_last (set_in_addition name value e) u
last-set u e id name value is =
    value-placed (with_last e u) id (length u.additions) name value is
    ∙ ap (λ es. with_additions es u) (set_in-last u.additions e name value)

-- An entry more is known by the next number, and a value that is set there is in that entry.
entry-placed : (u : GivenUnit) (id : ℕ) → id ≡ length u.places → place_of id (with_next u).places ≡ Some (length u.additions)
entry-placed u id is = ap (λ n. place_of n (with_next u).places) is ∙ place-last u.places (Some (length u.additions))

pub entry-known : (u : GivenUnit) (e : Addition) (id : ℕ) → id ≡ length u.places → IsAdded id (with_entry e u)
entry-known u e id is = ap is_some (entry-placed u id is)

pub entry-set : (u : GivenUnit) (e : Addition) (id name : ℕ) (value : AttributeValue) → id ≡ length u.places → with_value id name value (with_entry e u) ≡ with_entry (set_in_addition name value e) u
entry-set u e id name value is = last-set (with_next u) e id name value (entry-placed u id is)

-- ---- numbers and places

place-found : (place id : ℕ) (es : List Addition) → id < length es → place_of id (places_from place es) ≡ Some (place + id)
place-found place id [] within = absurd (omega (arith, within))
place-found place zero (e ∷ es) within = ap Some (omega arith)
place-found place (suc id) (e ∷ es) within = place-found (suc place) id es (omega (arith, within)) ∙ ap Some (omega arith)

places-length : (place : ℕ) (es : List Addition) → length (places_from place es) ≡ length es
places-length place [] = refl
places-length place (e ∷ es) = ap suc (places-length (suc place) es)

-- Where the numbers are the places, each entry is known by its place, and the next number is the next place.
pub numbered-place : (u : GivenUnit) (id : ℕ) → IsNumberedByPlaces u → id < length u.additions → place_of id u.places ≡ Some id
numbered-place u id numbered within = ap (place_of id) numbered ∙ place-found 0 id u.additions within ∙ ap Some (omega arith)

pub numbered-next : (u : GivenUnit) → IsNumberedByPlaces u → length u.places ≡ length u.additions
numbered-next u numbered = ap length numbered ∙ places-length 0 u.additions

-- They lead to entries that are there.
places-below : (place n : ℕ) (es : List Addition) → place + length es ≤ n → All (IsPlaceBelow n) (places_from place es)
places-below place n [] fits = All-nil (IsPlaceBelow n)
places-below place n (e ∷ es) fits = All-cons (IsPlaceBelow n) (Some place) (places_from (suc place) es) (omega (arith, fits)) (places-below (suc place) n es (omega (arith, fits)))

pub numbered-leads : (u : GivenUnit) → IsNumberedByPlaces u → LeadsToEntries u
numbered-leads u numbered = subst (All (IsPlaceBelow (length u.additions))) (sym numbered) (places-below 0 (length u.additions) u.additions (omega arith))

-- An entry that is added below one is a further entry.
pub numbered-child : (u : GivenUnit) (parent tag : ℕ) → IsNumberedByPlaces u → parent < length u.additions → with_child parent tag (with_next u) ≡ with_entry (record { parent = parent; tag = tag; attributes = [] }) u
numbered-child u parent tag numbered within = child-next u parent parent tag (numbered-place u parent numbered within)

-- A further entry that has the next number, and a value that is set, change nothing of that.
pub numbered-more : (u : GivenUnit) (e : Addition) → IsNumberedByPlaces u → IsNumberedByPlaces (with_entry e u)
numbered-more u e numbered = ap (λ ps. ps ++ Some (length u.additions) ∷ []) numbered ∙ sym (places-more 0 u.additions e ∙ ap (λ n. places_from 0 u.additions ++ Some n ∷ []) (omega arith))

places-set : (from place name : ℕ) (value : AttributeValue) (es : List Addition) → places_from from (set_in place name value es) ≡ places_from from es
places-set from place name value [] = refl
places-set from zero name value (e ∷ es) = refl
places-set from (suc place) name value (e ∷ es) = ap (λ ps. Some from ∷ ps) (places-set (suc from) place name value es)

pub numbered-set : (u : GivenUnit) (id name : ℕ) (value : AttributeValue) → IsNumberedByPlaces u → IsNumberedByPlaces (with_value id name value u)
numbered-set u id name value numbered = go (place_of id u.places)
  where
    go : (p : Option ℕ) → IsNumberedByPlaces (elim p [ None ↦ u | Some place ↦ with_additions (set_in place name value u.additions) u ])
    go None = numbered
    go (Some place) = numbered ∙ sym (places-set 0 place name value u.additions)

-- ---- file order

-- A new unit has a root alone.
pub in-order-root : (version size : ℕ) (lines : GivenLines) → IsInOrder (0 ∷ []) (new_unit version size lines)
in-order-root version size lines = record { counted = refl; some = omega arith; root = refl; parents = λ place above within. absurd (omega (arith, above, within)) }

get_or-last : {A : Type 0} (xs : List A) (x d : A) → get_or (xs ++ x ∷ []) (length xs) d ≡ x
get_or-last [] x d = refl
get_or-last (y ∷ xs) x d = get_or-last xs x d

-- depths behind others change no parent
parent-more : (ds : List ℕ) (d parent place : ℕ) → place < length ds → IsParent ds parent place → IsParent (ds ++ d ∷ []) parent place
parent-more ds d parent place within own =
    let before = own.before in
    let here = get_or_append_left ds (d ∷ []) 0 place within in
    record {
      before = own.before;
      depth = here ∙ own.depth ∙ ap suc (sym (get_or_append_left ds (d ∷ []) 0 parent (omega (arith, before, within))));
      between = λ j after low. omega (arith, here, own.between j after low, get_or_append_left ds (d ∷ []) 0 j (omega (arith, low, within)));
    }

order-more : (ds : List ℕ) (d : ℕ) (es : List Addition) (e : Addition) → AreInOrder ds es → e.parent < length es → d ≡ suc (get_or ds e.parent 0)
    → ((j : ℕ) → e.parent < j → j < length es → d ≤ get_or ds j 0) → AreInOrder (ds ++ d ∷ []) (es ++ e ∷ [])
order-more ds d es e order known depth between =
    let same = order.counted in
    let some = order.some in
    record {
      counted = omega (arith, same, length-append ds (d ∷ []), length-append es (e ∷ []));
      some = omega (arith, some, length-append es (e ∷ []));
      root = get_or_append_left ds (d ∷ []) 0 0 (omega (arith, same, some)) ∙ order.root;
      parents = λ place above within. at place above (omega (arith, within, length-append es (e ∷ []))) (eqb place (length es)) refl;
    }
  where
    early : (j : ℕ) → j < length es → get_or (ds ++ d ∷ []) j 0 ≡ get_or ds j 0
    early j low = let same = order.counted in get_or_append_left ds (d ∷ []) 0 j (omega (arith, low, same))

    last : get_or (ds ++ d ∷ []) (length es) 0 ≡ d
    last = subst (λ n. get_or (ds ++ d ∷ []) n 0 ≡ d) order.counted (get_or-last ds d 0)

    new : IsParent (ds ++ d ∷ []) e.parent (length es)
    new = record {
      before = known;
      depth = last ∙ depth ∙ ap suc (sym (early e.parent known));
      between = λ j after low. omega (arith, last, between j after low, early j low);
    }

    at : (place : ℕ) → 0 < place → place ≤ length es → (b : Bool) → eqb place (length es) ≡ b → IsParent (ds ++ d ∷ []) (get_or (es ++ e ∷ []) place no_addition).parent place
    at place above within true is =
        subst (λ n. IsParent (ds ++ d ∷ []) (get_or (es ++ e ∷ []) n no_addition).parent n) (sym (eqb-true place (length es) is))
        (subst (λ (a : Addition). IsParent (ds ++ d ∷ []) a.parent (length es)) (sym (get_or-last es e no_addition)) new)
    at place above within false is =
        let apart : place ≢ length es = eqb-false place (length es) is in
        let low : place < length es = omega (arith, within, apart) in
        let same = order.counted in
        subst (λ (a : Addition). IsParent (ds ++ d ∷ []) a.parent place) (sym (get_or_append_left es (e ∷ []) no_addition place low))
        (parent-more ds d (get_or es place no_addition).parent place (omega (arith, low, same)) (order.parents place above low))

-- An entry more below an entry, where all behind that one are at its own depth or below.
pub in-order-more : (ds : List ℕ) (d : ℕ) (u : GivenUnit) (e : Addition) → IsInOrder ds u → e.parent < length u.additions → d ≡ suc (get_or ds e.parent 0)
    → ((j : ℕ) → e.parent < j → j < length u.additions → d ≤ get_or ds j 0) → IsInOrder (ds ++ d ∷ []) (with_last e u)
in-order-more ds d u e order known depth between = order-more ds d u.additions e order known depth between

-- ---- a value that is set

parent-set : (place name i : ℕ) (value : AttributeValue) (es : List Addition) → (get_or (set_in place name value es) i no_addition).parent ≡ (get_or es i no_addition).parent
parent-set place name i value [] = refl
parent-set zero name zero value (e ∷ es) = refl
parent-set zero name (suc i) value (e ∷ es) = refl
parent-set (suc place) name zero value (e ∷ es) = refl
parent-set (suc place) name (suc i) value (e ∷ es) = parent-set place name i value es

-- A value that an entry is given changes no order.
pub in-order-set : (ds : List ℕ) (u : GivenUnit) (id name : ℕ) (value : AttributeValue) → IsInOrder ds u → IsInOrder ds (with_value id name value u)
in-order-set ds u id name value order = go (place_of id u.places)
  where
    go : (p : Option ℕ) → IsInOrder ds (elim p [ None ↦ u | Some place ↦ with_additions (set_in place name value u.additions) u ])
    go None = order
    go (Some place) =
        let many = length-set_in place name value u.additions in
        record {
          counted = order.counted ∙ sym many;
          some = subst (λ n. 0 < n) (sym many) order.some;
          root = order.root;
          parents = λ i above within. subst (λ p. IsParent ds p i) (sym (parent-set place name i value u.additions)) (order.parents i above (omega (arith, within, many)));
        }
