-- Each byte of a scope on which all values have places is in a range on which they stay.
use Rattle.std.proofs.Common.{◌≡◌, ℕ, zero, suc, ◌+◌, ◌-◌, ◌<◌, ◌≤◌, ◌⊎◌, inl, inr, List, [], ◌∷◌, Option, Bool, true, false, refl, sym, ap, subst, ◌∙◌, arith, true≢false}
use Rattle.std.specs.Prelude.{◌&&◌, ◌||◌, ◌==◌, nat_lt, nat_le}
use Rattle.std.specs.List.{AllZip, list_all, range_with_len}
use Rattle.std.proofs.lemmas.Bool.{and_parts, leb-true, ltb-true, ltb-false, eqb-true, eq-eqb}
use Rattle.dwc_native.specs.Placed.{Frame, all_placed, NativeRange, is_between, is_byte_of}
use Rattle.dwc_native.specs.LabelRanges.{bytes_of, all_bytes_placed, label_ranges}
use Rattle.dwc_native.proofs.LabelRangeCoverage.{label-ranges-complete}
use Rattle.dwc_base.proofs.InLists.{IsIn}

-- ---- two lists in step

pub zip-right : {A B : Type 0} (P : A → B → Type 0) (xs : List A) (ys : List B) (y : B) → AllZip P xs ys → IsIn y ys → (x : A) × IsIn x xs × P x y
zip-right P [] [] y h i = absurd i
zip-right P [] (z ∷ zs) y h i = absurd h
zip-right P (x ∷ xs) [] y h i = absurd i
zip-right P (x ∷ xs) (z ∷ zs) y h (inl same) = (x, inl refl, subst (P x) (sym same) h.0)
zip-right P (x ∷ xs) (z ∷ zs) y h (inr i) = let found = zip-right P xs zs y h.1 i in (found.0, inr found.1, found.2)

pub zip-left : {A B : Type 0} (P : A → B → Type 0) (xs : List A) (ys : List B) (x : A) → AllZip P xs ys → IsIn x xs → (y : B) × IsIn y ys × P x y
zip-left P [] [] x h i = absurd i
zip-left P [] (z ∷ zs) x h i = absurd i
zip-left P (y ∷ ys) [] x h i = absurd h
zip-left P (y ∷ ys) (z ∷ zs) x h (inl same) = (z, inl refl, subst (λ a. P a z) (sym same) h.0)
zip-left P (y ∷ ys) (z ∷ zs) x h (inr i) = let found = zip-left P ys zs x h.1 i in (found.0, inr found.1, found.2)

pub all-of : {A : Type 0} (p : A → Bool) (xs : List A) (x : A) → list_all p xs ≡ true → IsIn x xs → p x ≡ true
all-of p [] x h i = absurd i
all-of p (y ∷ ys) x h (inl same) = ap p same ∙ (and_parts (p y) (list_all p ys) h).0
all-of p (y ∷ ys) x h (inr i) = all-of p ys x (and_parts (p y) (list_all p ys) h).1 i

either : (a b : Bool) → (a || b) ≡ true → (a ≡ true) ⊎ (b ≡ true)
either true b h = inl refl
either false b h = inr h

-- ---- bytes of ranges

abbrev pub has_byte : ℕ → ℕ → NativeRange → Bool
has_byte function byte r = (r.function == function) && is_between r.start r.end byte

-- a range that has a byte
range-of : (rs : List NativeRange) (function byte : ℕ) → is_byte_of rs function byte ≡ true → (r : NativeRange) × IsIn r rs × (r.function ≡ function) × (is_between r.start r.end byte ≡ true)
range-of [] function byte h = absurd (true≢false (sym h))
range-of (r ∷ rs) function byte h = go (either (has_byte function byte r) (is_byte_of rs function byte) h) (λ k. range-of rs function byte k)
  where
    go : (has_byte function byte r ≡ true) ⊎ (is_byte_of rs function byte ≡ true) → (is_byte_of rs function byte ≡ true → (q : NativeRange) × IsIn q rs × (q.function ≡ function) × (is_between q.start q.end byte ≡ true)) → (q : NativeRange) × IsIn q (r ∷ rs) × (q.function ≡ function) × (is_between q.start q.end byte ≡ true)
    go (inl here) later = let both = and_parts (r.function == function) (is_between r.start r.end byte) here in (r, inl refl, eqb-true r.function function both.0, both.1)
    go (inr there) later = let found = later there in (found.0, inr found.1, found.2, found.3)

in-bytes : (count start byte : ℕ) → start ≤ byte → byte < start + count → IsIn byte (range_with_len start count)
in-bytes zero start byte from to = absurd (omega (arith, from, to))
in-bytes (suc count) start byte from to = go (start == byte) refl (λ more. in-bytes count (start + 1) byte more (omega (arith, to)))
  where
    go : (b : Bool) → (start == byte) ≡ b → (start + 1 ≤ byte → IsIn byte (range_with_len (start + 1) count)) → IsIn byte (range_with_len start (suc count))
    go true e later = inl (sym (eqb-true start byte e))
    go false e later = inr (later (differ e))
      where
        differ : (start == byte) ≡ false → start + 1 ≤ byte
        differ k = go-lt (nat_lt start byte) refl
          where
            go-lt : (l : Bool) → nat_lt start byte ≡ l → start + 1 ≤ byte
            go-lt true l = omega (arith, ltb-true start byte l)
            go-lt false l = absurd (true≢false (sym (eq-eqb start byte (omega (arith, from, ltb-false start byte l))) ∙ k))

module _ (frame : Option Frame) (labels : List ℕ) (scope : List NativeRange) where
  -- where each byte of a scope has places, each is in a label range
  pub in-ranges : all_bytes_placed frame labels scope ≡ true → (function byte : ℕ) → is_byte_of scope function byte ≡ true → (r : NativeRange) × IsIn r (label_ranges frame labels scope) × (r.function ≡ function) × (is_between r.start r.end byte ≡ true)
  in-ranges all function byte h =
      let r = range-of scope function byte h in
      let bounds = and_parts (nat_le (r.0).start byte) (nat_lt byte (r.0).end) r.3 in
      let from : (r.0).start ≤ byte = leb-true (r.0).start byte bounds.0 in
      let to : byte < (r.0).end = ltb-true byte (r.0).end bounds.1 in
      let each : list_all (all_placed frame labels (r.0).function) (bytes_of r.0) ≡ true = all-of (λ (q : NativeRange). list_all (all_placed frame labels q.function) (bytes_of q)) scope r.0 all r.1 in
      let placed : all_placed frame labels (r.0).function byte ≡ true = all-of (all_placed frame labels (r.0).function) (bytes_of r.0) byte each (in-bytes ((r.0).end - (r.0).start) (r.0).start byte from (omega (arith, from, to))) in
      range-of (label_ranges frame labels scope) function byte
      (label-ranges-complete frame labels scope function byte (ap (λ b. b && all_placed frame labels function byte) h ∙ subst (λ f. all_placed frame labels f byte ≡ true) r.2 placed))
