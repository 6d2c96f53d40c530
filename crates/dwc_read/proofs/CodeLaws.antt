-- Declarations by their codes, and by their places.
use Rattle.std.proofs.Common.{◌≡◌, ℕ, zero, suc, ◌+◌, ◌<◌, ◌≤◌, refl, ap, sym, ◌∙◌, drop, arith, append_assoc, length-append, List, [], ◌∷◌, ◌++◌, length, Some, None, Bool, true, false, cond, eqb, eq-eqb}
use Rattle.std.specs.Prelude.{◌&&◌, slice_get, option_and_then}
use Rattle.std.proofs.lemmas.Bool.{ne_eqb, eqb-true}
use Rattle.dwc_base.specs.Abbreviations.{Declaration, declaration_of}
use Rattle.dwc_read.specs.Codes.{counts_from, place_from}

-- what a table that counts from n says of its first declaration, and of the others
counts_from-first : (n : ℕ) (d : Declaration) (ds : List Declaration) → counts_from n (d ∷ ds) ≡ true → (d.code ≡ n) × (counts_from (suc n) ds ≡ true)
counts_from-first n d ds h = go (eqb d.code n) refl h
  where
    go : (b : Bool) → eqb d.code n ≡ b → (b && counts_from (suc n) ds) ≡ true → (d.code ≡ n) × (counts_from (suc n) ds ≡ true)
    go true is others = (eqb-true d.code n is, others)
    go false is others = absurd (cc)

-- where codes count from n, a code below it is none
pub declaration_of-below : (n code : ℕ) (ds : List Declaration) → counts_from n ds ≡ true → code < n → declaration_of code ds ≡ None
declaration_of-below n code [] counts below = refl
declaration_of-below n code (d ∷ ds) counts below =
    let h = counts_from-first n d ds counts in
    let first : d.code ≡ n = h.0 in
    let other : eqb d.code code ≡ false = ne_eqb _ _ (omega arith) in
    rw other (declaration_of-below (suc n) code ds h.1 (omega arith))

-- and the code at a place is that much above n
pub declaration_of-counted : (n place : ℕ) (ds : List Declaration) → counts_from n ds ≡ true → declaration_of (n + place) ds ≡ slice_get ds place
declaration_of-counted n place [] counts = refl
declaration_of-counted n zero (d ∷ ds) counts =
    let h = counts_from-first n d ds counts in
    let first : d.code ≡ n = h.0 in
    let same : eqb d.code (n + 0) ≡ true = eq-eqb _ _ (omega arith) in
    rw same refl
declaration_of-counted n (suc place) (d ∷ ds) counts =
    let h = counts_from-first n d ds counts in
    let first : d.code ≡ n = h.0 in
    let other : eqb d.code (n + suc place) ≡ false = ne_eqb _ _ (omega arith) in
    let next : n + suc place ≡ suc n + place = omega arith in
    rw other (ap (λ c. declaration_of c ds) next ∙ declaration_of-counted (suc n) place ds h.1)

slice_get-seam : {A : Type 0} (front : List A) (x : A) (xs : List A) → slice_get (front ++ (x ∷ xs)) (length front) ≡ Some x
slice_get-seam [] x xs = refl
slice_get-seam (y ∷ front) x xs = slice_get-seam front x xs

length-one_more : {A : Type 0} (front : List A) (x : A) → length (front ++ x ∷ []) ≡ length front + 1
length-one_more front x = length-append front (x ∷ [])

-- the first of a code stands at its place
place_from-behind : (front ds : List Declaration) (code : ℕ) → option_and_then (slice_get (front ++ ds)) (place_from (length front) ds code) ≡ declaration_of code ds
place_from-behind front [] code = refl
place_from-behind front (d ∷ ds) code = go (eqb d.code code) (place_from-behind (front ++ d ∷ []) ds code)
  where
    go : (b : Bool) → option_and_then (slice_get ((front ++ d ∷ []) ++ ds)) (place_from (length (front ++ d ∷ [])) ds code) ≡ declaration_of code ds
        → option_and_then (slice_get (front ++ (d ∷ ds))) (cond b (Some (length front)) (place_from (length front + 1) ds code)) ≡ cond b (Some d) (declaration_of code ds)
    go true rest = slice_get-seam front d ds
    go false rest = rw (← append_assoc front (d ∷ []) ds, ← length-one_more front d) rest

pub place_from-first : (ds : List Declaration) (code : ℕ) → option_and_then (slice_get ds) (place_from 0 ds code) ≡ declaration_of code ds
place_from-first ds code = place_from-behind [] ds code

-- where codes count from n, the first of a code stands as far behind as it is above n
pub place_from-counted : (n start place : ℕ) (ds : List Declaration) → counts_from n ds ≡ true → place < length ds → place_from start ds (n + place) ≡ Some (start + place)
place_from-counted n start place [] counts inside = absurd (omega (arith, inside))
place_from-counted n start zero (d ∷ ds) counts inside =
    let h = counts_from-first n d ds counts in
    let first : d.code ≡ n = h.0 in
    let same : eqb d.code (n + 0) ≡ true = eq-eqb _ _ (omega arith) in
    let here : start ≡ start + 0 = omega arith in
    rw same (ap Some here)
place_from-counted n start (suc place) (d ∷ ds) counts inside =
    let h = counts_from-first n d ds counts in
    let first : d.code ≡ n = h.0 in
    let other : eqb d.code (n + suc place) ≡ false = ne_eqb _ _ (omega arith) in
    let next : n + suc place ≡ suc n + place = omega arith in
    let behind : (start + 1) + place ≡ start + suc place = omega arith in
    rw other (ap (λ c. place_from (start + 1) ds c) next ∙ place_from-counted (suc n) (start + 1) place ds h.1 (omega (arith, inside)) ∙ ap Some behind)

-- a code whose first declaration stands at a place or behind it is found from there on
declaration_of-skip : (start count place : ℕ) (ds : List Declaration) (code : ℕ) → place_from start ds code ≡ Some place → start + count ≤ place → declaration_of code (drop count ds) ≡ declaration_of code ds
declaration_of-skip start zero place ds code found le = refl
declaration_of-skip start (suc count) place [] code found le = absurd (cc)
declaration_of-skip start (suc count) place (d ∷ ds) code found le = go (eqb d.code code) found (λ h. declaration_of-skip (start + 1) count place ds code h (omega (arith, le)))
  where
    go : (b : Bool) → cond b (Some start) (place_from (start + 1) ds code) ≡ Some place → (place_from (start + 1) ds code ≡ Some place → declaration_of code (drop count ds) ≡ declaration_of code ds)
        → declaration_of code (drop count ds) ≡ cond b (Some d) (declaration_of code ds)
    go true h rest = let same : start ≡ place = cc in absurd (omega (arith, same, le))
    go false h rest = rest h

pub declaration_of-behind : (count place : ℕ) (ds : List Declaration) (code : ℕ) → place_from 0 ds code ≡ Some place → count ≤ place → slice_get ds place ≡ declaration_of code (drop count ds)
declaration_of-behind count place ds code found le =
    ap (option_and_then (slice_get ds)) (sym found) ∙ place_from-first ds code ∙ sym (declaration_of-skip 0 count place ds code found (omega (arith, le)))
