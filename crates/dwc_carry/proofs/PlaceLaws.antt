-- Where the goals of a module's entries are, by the offsets of the entries that the output has.
use Rattle.std.proofs.Common.{◌≡◌, ℕ, suc, ◌+◌, ◌<◌, ◌≤◌, List, [], ◌∷◌, ◌++◌, length, refl, ap, ap₂, sym, ◌∙◌, arith, Bool, true, false, cond, Option, Some, None, All}
use Rattle.std.specs.Prelude.{◌==◌, option_map}
use Rattle.std.specs.Option.{option_or}
use Rattle.std.specs.List.{find, position_from}
use Rattle.std.proofs.lemmas.Bool.{ne_eqb}
use Rattle.std.proofs.lemmas.Iterator.Adapters.{position_from-zero}
use Rattle.std.proofs.lemmas.List.Elements.{All-head, All-tail, All-weaker}
use Rattle.dwc_dwarf.specs.Trees.{place_among}
use Rattle.dwc_source.specs.declared.places.EmittedEntry.{EmittedEntry}
use Rattle.dwc_source.specs.OutputPlaces.{numbered, offsets_of, place_of}
use Rattle.dwc_carry.specs.ModulePlaces.{numbered_lists}
use Rattle.dwc_carry.proofs.UnitsInOrder.{joined}

-- ---- positions

from-none : {A : Type 0} (t : A → Bool) (n : ℕ) (xs : List A) → All (λ x. t x ≡ false) xs → position_from t n xs ≡ None
from-none t n [] none = refl
from-none {A} t n (x ∷ xs) none = ap₂ (λ b o. cond {A = Option ℕ} b (Some n) o) (All-head (λ y. t y ≡ false) x xs none) (from-none t (n + 1) xs (All-tail (λ y. t y ≡ false) x xs none))

-- ---- entries by their offsets

numbered-place : (unit n : ℕ) (os : List ℕ) (rest : List EmittedEntry) (o : ℕ) → place_of (numbered unit n os ++ rest) o ≡ option_or (option_map (λ place. (unit, place)) (position_from (λ k. k == o) n os)) (place_of rest o)
numbered-place unit n [] rest o = refl
numbered-place unit n (k ∷ os) rest o = go (k == o) (numbered-place unit (suc n) os rest o)
  where
    go : (b : Bool) → place_of (numbered unit (suc n) os ++ rest) o ≡ option_or (option_map (λ place. (unit, place)) (position_from (λ j. j == o) (suc n) os)) (place_of rest o)
        → option_map (λ (e : EmittedEntry). (e.unit, e.entry)) (cond {A = Option EmittedEntry} b (Some (record { offset = k; unit = unit; entry = n })) (find (λ e. e.offset == o) (numbered unit (suc n) os ++ rest)))
        ≡ option_or (option_map (λ place. (unit, place)) (cond {A = Option ℕ} b (Some n) (position_from (λ j. j == o) (n + 1) os))) (place_of rest o)
    go true h = refl
    go false h = h ∙ ap (λ m. option_or (option_map (λ place. (unit, place)) (position_from (λ j. j == o) m os)) (place_of rest o)) (omega arith)

pub lists-step : (n : ℕ) (os : List ℕ) (lists : List (List ℕ)) (o : ℕ) → place_of (numbered_lists n (os ∷ lists)) o ≡ option_or (option_map (λ place. (n, place)) (position_from (λ k. k == o) 0 os)) (place_of (numbered_lists (suc n) lists) o)
lists-step n os lists o = numbered-place n 0 os (numbered_lists (suc n) lists) o

pub lists-among : (n : ℕ) (lists : List (List ℕ)) (o : ℕ) → place_of (numbered_lists n lists) o ≡ place_among (λ k. k == o) n lists
lists-among n [] o = refl
lists-among n (os ∷ lists) o =
    lists-step n os lists o
    ∙ ap₂ (λ (a : Option ℕ) (b : Option (ℕ × ℕ)). option_or (option_map (λ place. (n, place)) a) b) (sym (position_from-zero (λ k. k == o) os)) (lists-among (suc n) lists o)

pub numbered-offsets : (unit n : ℕ) (os : List ℕ) → offsets_of (numbered unit n os) ≡ os
numbered-offsets unit n [] = refl
numbered-offsets unit n (o ∷ os) = ap (λ xs. o ∷ xs) (numbered-offsets unit (suc n) os)

pub offsets-behind : (es fs : List EmittedEntry) → offsets_of (es ++ fs) ≡ offsets_of es ++ offsets_of fs
offsets-behind [] fs = refl
offsets-behind (e ∷ es) fs = ap (λ xs. e.offset ∷ xs) (offsets-behind es fs)

pub lists-offsets : (n : ℕ) (lists : List (List ℕ)) → offsets_of (numbered_lists n lists) ≡ joined lists
lists-offsets n [] = refl
lists-offsets n (os ∷ lists) = offsets-behind (numbered n 0 os) (numbered_lists (suc n) lists) ∙ ap₂ (λ xs ys. xs ++ ys) (numbered-offsets n 0 os) (lists-offsets (suc n) lists)

-- ---- the unit of an entry

-- An offset that stands in the unit of a number, and in no other, is in that unit of the output.
pub own-place : (start end first number : ℕ) (front : List (List ℕ)) (os : List ℕ) (more : List (List ℕ)) → number ≡ first + length front → All (All (λ k. k < start)) front → All (All (λ k. end ≤ k)) more
    → (offset : ℕ) (p : ℕ × ℕ) → start ≤ offset → offset < end → place_of (numbered_lists first (front ++ os ∷ more)) offset ≡ Some p → p.0 ≡ number
own-place start end first number (f ∷ front) os more counted before behind offset p low high at =
    own-place start end (suc first) number front os more (omega (arith, counted)) (All-tail (All (λ k. k < start)) f front before) behind offset p low high
    (sym (lists-step first f (front ++ os ∷ more) offset ∙ ap (λ o. option_or (option_map (λ place. (first, place)) o) (place_of (numbered_lists (suc first) (front ++ os ∷ more)) offset)) (from-none (λ k. k == offset) 0 f (All-other f (All-head (All (λ k. k < start)) f front before)))) ∙ at)
  where
    All-other : (ks : List ℕ) → All (λ k. k < start) ks → All (λ k. (k == offset) ≡ false) ks
    All-other ks h = All-weaker (λ k. k < start) (λ k. (k == offset) ≡ false) (λ k less. ne_eqb k offset (λ e. absurd (omega (arith, e, less, low)))) ks h
own-place start end first number [] os more counted before behind offset p low high at =
    go (position_from (λ k. k == offset) 0 os) (sym (lists-step first os more offset ∙ ap (option_or (option_map (λ place. (first, place)) (position_from (λ k. k == offset) 0 os))) (nowhere (suc first) more behind)) ∙ at)
  where
    All-other : (ks : List ℕ) → All (λ k. end ≤ k) ks → All (λ k. (k == offset) ≡ false) ks
    All-other ks h = All-weaker (λ k. end ≤ k) (λ k. (k == offset) ≡ false) (λ k le. ne_eqb k offset (λ e. absurd (omega (arith, e, le, high)))) ks h

    nowhere : (n : ℕ) (lists : List (List ℕ)) → All (All (λ k. end ≤ k)) lists → place_of (numbered_lists n lists) offset ≡ None
    nowhere n [] h = refl
    nowhere n (ks ∷ lists) h =
        lists-step n ks lists offset
        ∙ ap₂ (λ (a : Option ℕ) (b : Option (ℕ × ℕ)). option_or (option_map (λ place. (n, place)) a) b) (from-none (λ k. k == offset) 0 ks (All-other ks (All-head (All (λ k. end ≤ k)) ks lists h))) (nowhere (suc n) lists (All-tail (All (λ k. end ≤ k)) ks lists h))

    go : (o : Option ℕ) → option_or {T = ℕ × ℕ} (option_map (λ place. (first, place)) o) None ≡ Some p → p.0 ≡ number
    go (Some place) e = let same : (first, place) ≡ p = some-same e in sym (ap (λ (x : ℕ × ℕ). x.0) same) ∙ (omega (arith, counted))
      where
        some-same : Some (first, place) ≡ Some p → (first, place) ≡ p
        some-same h = cc
    go None e = absurd (cc)
