-- Where entries stand in the output, as a search by halves finds them.
use Rattle.std.proofs.Common.{subst, ◌≡◌, ℕ, zero, suc, ◌<◌, ◌≤◌, ◌-◌, refl, sym, ap, ◌∙◌, arith, List, [], ◌∷◌, ◌++◌, length, get_or, Bool, true, false, Some, None}
use Rattle.std.specs.Prelude.{◌≢◌, ◌==◌, nat_lt, slice_get, option_and_then}
use Rattle.std.specs.List.Sorted.{IsNonDecreasingBy, IsPartitionPoint}
use Rattle.std.proofs.lemmas.Bool.{ne_eqb, ltb-true, ltb-false, lt-ltb, le-ltb, eqb-false}
use Rattle.std.proofs.lemmas.List.{get_or-map, length-append, length-map, map-append, get_or_append_left}
use Rattle.dwc_source.specs.declared.places.EmittedEntry.{EmittedEntry}
use Rattle.dwc_source.specs.OutputPlaces.{AreBefore, numbered, offsets_of, place_at, place_of}

-- whether an entry stands before an offset
abbrev pub is_before : ℕ → EmittedEntry → Bool
is_before offset e = nat_lt e.offset offset

-- Entries behind an offset are not at it.
none-behind : (offset : ℕ) (es : List EmittedEntry) → ((k : ℕ) (d : EmittedEntry) → k < length es → offset < (get_or es k d).offset) → place_of es offset ≡ None
none-behind offset [] behind = refl
none-behind offset (e ∷ es) behind = rw (ne_eqb e.offset offset (λ same. omega (arith, same, behind 0 e (omega arith)))) (none-behind offset es (λ k d less. behind (suc k) d (omega arith)))

-- Among entries whose offsets do not fall the first one that is not before an offset is at it, or none is.
pub place-found : (offset : ℕ) (es : List EmittedEntry) (place : ℕ) → place ≤ length es → ((i j : ℕ) (d : EmittedEntry) → i ≤ j → j < length es → (get_or es i d).offset ≤ (get_or es j d).offset) → IsPartitionPoint (λ e. is_before offset e ≡ true) (λ e. is_before offset e ≡ false) es place → option_and_then (place_at offset) (slice_get es place) ≡ place_of es offset
place-found offset [] zero inside rises at = refl
place-found offset [] (suc place) inside rises at = absurd (omega arith)
place-found offset (e ∷ es) zero inside rises at = go (e.offset == offset) refl
  where
    first : offset ≤ e.offset
    first = ltb-false e.offset offset (at.1 0 e (omega arith) (omega arith))

    behind : e.offset ≢ offset → (k : ℕ) (d : EmittedEntry) → k < length es → offset < (get_or es k d).offset
    behind differs k d less = omega (arith, first, differs, rises 0 (suc k) d (omega arith) (omega arith))

    go : (b : Bool) → (e.offset == offset) ≡ b → option_and_then (place_at offset) (Some e) ≡ place_of (e ∷ es) offset
    go true same = rw same refl
    go false other = rw other (sym (none-behind offset es (behind (eqb-false e.offset offset other))))
place-found offset (e ∷ es) (suc place) inside rises at =
    let before = ltb-true e.offset offset (at.0 0 e (omega arith) (omega arith)) in
    rw (ne_eqb e.offset offset (λ same. omega (arith, same, before)))
    (place-found offset es place (omega arith) (λ i j d le less. rises (suc i) (suc j) d (omega arith) (omega arith)) (λ k d low high. at.0 (suc k) d (omega arith) (omega arith), λ k d low high. at.1 (suc k) d (omega arith) (omega arith)))

-- what is said of the offsets is said of the entries
pub offsets-rise : (es : List EmittedEntry) → IsNonDecreasingBy (λ o. o) (offsets_of es) → (i j : ℕ) (d : EmittedEntry) → i ≤ j → j < length es → (get_or es i d).offset ≤ (get_or es j d).offset
offsets-rise es rises i j d le less =
    let inside : j < length (offsets_of es) = subst (λ n. j < n) (sym (length-map es (λ e. e.offset))) less in
    let here = get_or-map (λ (e : EmittedEntry). e.offset) es i d d.offset (omega arith) in
    let there = get_or-map (λ (e : EmittedEntry). e.offset) es j d d.offset less in
    omega (arith, here, there, rises i j d.offset le inside)

-- Behind entries that are before an offset, one that is not is the first that is at it, or none is.
pub place-behind : (offset : ℕ) (es : List EmittedEntry) (count : ℕ) → ((i j : ℕ) (d : EmittedEntry) → i ≤ j → j < length es → (get_or es i d).offset ≤ (get_or es j d).offset) → AreBefore offset es count
    → ((d : EmittedEntry) → count < length es → offset ≤ (get_or es count d).offset) → option_and_then (place_at offset) (slice_get es count) ≡ place_of es offset
place-behind offset es count rises before behind = place-found offset es count before.0 rises (low, high)
  where
    low : (k : ℕ) (d : EmittedEntry) → 0 ≤ k → k < count → is_before offset (get_or es k d) ≡ true
    low k d from less = lt-ltb (get_or es k d).offset offset (omega (arith, rises k (count - 1) d (omega arith) (omega (arith, before.0)), before.1 (count - 1) d (omega arith)))

    high : (k : ℕ) (d : EmittedEntry) → count ≤ k → k < length es → is_before offset (get_or es k d) ≡ false
    high k d from less = le-ltb (get_or es k d).offset offset (omega (arith, behind d (omega arith), rises count k d from less))

-- ---- entries that are added

numbered-offsets : (unit entry : ℕ) (os : List ℕ) → offsets_of (numbered unit entry os) ≡ os
numbered-offsets unit entry [] = refl
numbered-offsets unit entry (o ∷ os) = ap (λ xs. o ∷ xs) (numbered-offsets unit (suc entry) os)

-- A front of numbers that do not fall.
pub front-rises : (xs ys : List ℕ) → IsNonDecreasingBy (λ o. o) (xs ++ ys) → IsNonDecreasingBy (λ o. o) xs
front-rises xs ys rises i j d le less =
    let more : length xs ≤ length (xs ++ ys) = omega (arith, length-append xs ys) in
    omega (arith, get_or_append_left xs ys d i (omega arith), get_or_append_left xs ys d j less, rises i j d le (omega arith))

-- Entries that were added so far do not fall where all do.
pub added-rise : (start es : List EmittedEntry) (unit entry : ℕ) (os left : List ℕ) → es ++ numbered unit entry left ≡ start ++ numbered unit 0 os → IsNonDecreasingBy (λ o. o) (offsets_of start ++ os) → IsNonDecreasingBy (λ o. o) (offsets_of es)
added-rise start es unit entry os left same rises =
    let split = λ (xs : List EmittedEntry) (n : ℕ) (ys : List ℕ). map-append (λ (e : EmittedEntry). e.offset) xs (numbered unit n ys) ∙ ap (λ zs. offsets_of xs ++ zs) (numbered-offsets unit n ys) in
    front-rises (offsets_of es) left (subst (IsNonDecreasingBy (λ o. o)) (sym (split start 0 os) ∙ (sym (ap offsets_of same) ∙ split es entry left)) rises)
