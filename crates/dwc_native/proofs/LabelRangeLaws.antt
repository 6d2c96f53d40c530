-- The label ranges of one function ascend, are not empty, and each of their bytes is wanted.
use Rattle.std.proofs.Common.{◌≡◌, ℕ, zero, suc, ◌<◌, ◌≤◌, ◌+◌, List, [], ◌∷◌, true, false, refl, sym, ◌∙◌, subst, arith, inl, inr}
use Rattle.std.specs.Prelude.{Bool, Option, ◌&&◌, ◌==◌, ◌⊎◌, ◌++◌, map, if◌then◌else◌, ⊤, All, AllPairs}
use Rattle.std.specs.List.{filter, flat_map, range_with_len}
use Rattle.std.proofs.lemmas.List.Elements.{All-nil, All-cons, All-append, All-weaker}
use Rattle.std.proofs.lemmas.List.Kept.{AllPairs-cons}
use Rattle.std.proofs.lemmas.Bool.{cases_lt, and_parts, eqb-true}
use Rattle.dwc_native.specs.Placed.{Frame, NativeRange, is_byte_of, all_placed, all_stay}
use Rattle.dwc_native.specs.LabelRanges.{greatest, with_byte, ranges_among, is_wanted, ranges_of_function, label_ranges, IsBefore, AtEachByte, AreLabelRanges}

-- what is so at each byte of a range
abbrev pub Wanted : (ℕ → Bool) → NativeRange → Type 0
Wanted w r = AtEachByte (λ b. w b ≡ true) r

-- ranges of a function one behind another from a byte on
abbrev pub Ascend : ℕ → (ℕ → Bool) → ℕ → List NativeRange → Type 0
Ascend function w byte [] = ⊤
Ascend function w byte (r ∷ rs) = (byte ≤ r.start) × (r.start < r.end) × (r.function ≡ function) × Wanted w r × Ascend function w r.end rs

one-byte : (w : ℕ → Bool) (function byte : ℕ) → w byte ≡ true → Wanted w (record { function = function; start = byte; end = suc byte })
one-byte w function byte here b from to = let same : b ≡ byte = omega arith in rw same here

more : (w : ℕ → Bool) (byte : ℕ) (r : NativeRange) → w byte ≡ true → r.start ≡ suc byte → Wanted w r → Wanted w (record r { start = byte })
more w byte r here next others b from to = go (cases_lt byte b)
  where
    go : (byte < b) ⊎ (b ≤ byte) → w b ≡ true
    go (inl below) = others b (omega (arith, next)) to
    go (inr above) = let same : b ≡ byte = omega arith in rw same here

later : (function : ℕ) (w : ℕ → Bool) (byte : ℕ) (rs : List NativeRange) → Ascend function w (suc byte) rs → Ascend function w byte rs
later function w byte [] h = tt
later function w byte (r ∷ rs) h = (omega (arith, h.0), h.1, h.2, h.3, h.4)

with-byte : (w : ℕ → Bool) (function byte : ℕ) (goes_on : Bool) (rs : List NativeRange) → w byte ≡ true → Ascend function w (suc byte) rs → Ascend function w byte (with_byte function byte goes_on rs)
with-byte w function byte goes_on [] here h = (omega arith, omega arith, refl, one-byte w function byte here, tt)
with-byte w function byte goes_on (r ∷ rs) here h = go (goes_on && (r.start == suc byte)) refl
  where
    go : (joins : Bool) → goes_on && (r.start == suc byte) ≡ joins → Ascend function w byte (if joins then record r { start = byte } ∷ rs else record { function = function; start = byte; end = suc byte } ∷ r ∷ rs)
    go true e =
        let next : r.start ≡ suc byte = eqb-true r.start (suc byte) (and_parts goes_on (r.start == suc byte) e).1 in
        (omega arith, omega (arith, next, h.1), h.2, more w byte r here next h.3, h.4)
    go false e = (omega arith, omega arith, refl, one-byte w function byte here, h)

pub ranges-ascend : (function : ℕ) (w goes_on : ℕ → Bool) (byte count : ℕ) → Ascend function w byte (ranges_among function w goes_on byte count)
unfolding ranges_among
ranges-ascend function w goes_on byte zero = tt
ranges-ascend function w goes_on byte (suc count) = go (w byte) refl (ranges-ascend function w goes_on (suc byte) count)
  where
    go : (wanted : Bool) → w byte ≡ wanted → Ascend function w (suc byte) (ranges_among function w goes_on (suc byte) count) → Ascend function w byte (elim wanted [ true ↦ with_byte function byte (goes_on byte) (ranges_among function w goes_on (suc byte) count) | false ↦ ranges_among function w goes_on (suc byte) count ])
    go true e h = with-byte w function byte (goes_on byte) (ranges_among function w goes_on (suc byte) count) e h
    go false e h = later function w byte (ranges_among function w goes_on (suc byte) count) h

-- ---- those of all functions

-- ranges of functions from one on are in order, not empty, and each of their bytes is wanted
record Good (w : ℕ → ℕ → Bool) (n : ℕ) (rs : List NativeRange) : Type 0 where
  from : All (λ r. n ≤ r.function) rs
  ordered : AllPairs IsBefore rs
  nonempty : All (λ r. r.start < r.end) rs
  wanted : All (λ r. AtEachByte (λ b. w r.function b ≡ true) r) rs

-- ranges that ascend lie in their function, from their byte on
abbrev pub After : ℕ → ℕ → NativeRange → Type 0
After function byte r = (r.function ≡ function) × (byte ≤ r.start)

pub ascend-after : (function : ℕ) (w : ℕ → Bool) (byte : ℕ) (rs : List NativeRange) → Ascend function w byte rs → All (After function byte) rs
ascend-after function w byte [] h = All-nil (After function byte)
ascend-after function w byte (r ∷ rs) h =
    All-cons (After function byte) r rs (h.2, h.0)
    (All-weaker (After function r.end) (After function byte) (λ x p. (p.0, omega (arith, p.1, h.0, h.1))) rs (ascend-after function w r.end rs h.4))

append : (w : ℕ → ℕ → Bool) (n byte : ℕ) (xs ys : List NativeRange) → Ascend n (w n) byte xs → Good w (n + 1) ys → Good w n (xs ++ ys)
append w n byte [] ys h g = record { from = All-weaker (λ r. n + 1 ≤ r.function) (λ r. n ≤ r.function) (λ r p. omega (arith, p)) ys g.from; ordered = g.ordered; nonempty = g.nonempty; wanted = g.wanted }
append w n byte (x ∷ xs) ys h g =
    let others = append w n x.end xs ys h.4 g in
    let behind : All (IsBefore x) (xs ++ ys) = All-append (IsBefore x) xs ys
    (All-weaker (After n x.end) (IsBefore x) (λ r p. inr (h.2 ∙ sym p.0, p.1)) xs (ascend-after n (w n) x.end xs h.4))
    (All-weaker (λ r. n + 1 ≤ r.function) (IsBefore x) (λ r p. inl (omega (arith, p, h.2))) ys g.from) in
    record {
      from = All-cons (λ r. n ≤ r.function) x (xs ++ ys) (omega (arith, h.2)) others.from;
      ordered = AllPairs-cons IsBefore x (xs ++ ys) behind others.ordered;
      nonempty = All-cons (λ r. r.start < r.end) x (xs ++ ys) h.1 others.nonempty;
      wanted = All-cons (λ r. AtEachByte (λ b. w r.function b ≡ true) r) x (xs ++ ys) (subst (λ f. AtEachByte (λ b. w f b ≡ true) x) (sym h.2) h.3) others.wanted;
    }

all-good : (w : ℕ → ℕ → Bool) (ranges_of : ℕ → List NativeRange) → ((n : ℕ) → Ascend n (w n) 0 (ranges_of n)) → (n count : ℕ) → Good w n (flat_map ranges_of (range_with_len n count))
all-good w ranges_of each n zero = record { from = All-nil (λ r. n ≤ r.function); ordered = λ i j d below inside. absurd (omega (arith, inside)); nonempty = All-nil (λ r. r.start < r.end); wanted = All-nil (λ r. AtEachByte (λ b. w r.function b ≡ true) r) }
all-good w ranges_of each n (suc count) = append w n 0 (ranges_of n) (flat_map ranges_of (range_with_len (n + 1) count)) (each n) (all-good w ranges_of each (n + 1) count)

-- The label ranges of a scope are disjoint and in order, lie in the scope and have a place for every label.
pub label-ranges : (frame : Option Frame) (labels : List ℕ) (scope : List NativeRange) → AreLabelRanges frame labels scope (label_ranges frame labels scope)
label-ranges frame labels scope =
    let w : ℕ → ℕ → Bool = is_wanted frame labels scope in
    let good : Good w 0 (label_ranges frame labels scope) = all-good w (ranges_of_function frame labels scope) (λ n. ranges-ascend n (w n) (λ byte. all_stay frame labels n byte (suc byte)) 0 (greatest (map (λ r. r.end) (filter (λ r. r.function == n) scope)))) 0 (suc (greatest (map (λ r. r.function) scope))) in
    record {
      ordered = good.ordered;
      nonempty = good.nonempty;
      inside = All-weaker (λ r. AtEachByte (λ b. w r.function b ≡ true) r) (λ r. AtEachByte (λ b. is_byte_of scope r.function b ≡ true) r) (λ r p b from to. (and_parts (is_byte_of scope r.function b) (all_placed frame labels r.function b) (p b from to)).0) (label_ranges frame labels scope) good.wanted;
      placed = All-weaker (λ r. AtEachByte (λ b. w r.function b ≡ true) r) (λ r. AtEachByte (λ b. all_placed frame labels r.function b ≡ true) r) (λ r p b from to. (and_parts (is_byte_of scope r.function b) (all_placed frame labels r.function b) (p b from to)).1) (label_ranges frame labels scope) good.wanted;
    }
