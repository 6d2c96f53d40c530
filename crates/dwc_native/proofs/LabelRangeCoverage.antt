-- Each byte of a scope that has a place for every label is in one of its label ranges.
use Rattle.std.proofs.Common.{◌≡◌, ℕ, zero, suc, ◌<◌, ◌≤◌, ◌+◌, List, [], ◌∷◌, true, false, refl, ap, sym, ◌∙◌, subst, arith, inl, inr, true≢false}
use Rattle.std.specs.Prelude.{Bool, Option, ◌&&◌, ◌==◌, ◌⊎◌, ◌++◌, map, max, cond, nat_le, nat_lt, if◌then◌else◌}
use Rattle.std.specs.List.{filter, flat_map, range_with_len}
use Rattle.std.proofs.lemmas.Bool.{cases_lt, and_parts, and_from, or_left, or_right, or_cases, eqb-true, eq-eqb, leb-true, le-leb, ltb-true, lt-ltb}
use Rattle.std.proofs.lemmas.List.Folds.{list_any-append}
use Rattle.dwc_native.specs.Placed.{Frame, NativeRange, is_between, is_byte_of, all_placed, all_stay}
use Rattle.dwc_native.specs.LabelRanges.{greatest, with_byte, ranges_among, is_wanted, ranges_of_function, label_ranges}
use Rattle.dwc_native.proofs.LabelRangeLaws.{Ascend, ranges-ascend}

-- whether a range holds a byte of a function
abbrev pub holds : ℕ → ℕ → NativeRange → Bool
holds function byte r = (r.function == function) && is_between r.start r.end byte

-- it does where the byte lies between its ends, and then it lies there
pub hold : (function byte : ℕ) (r : NativeRange) → r.function ≡ function → r.start ≤ byte → byte < r.end → holds function byte r ≡ true
hold function byte r same from to = and_from (r.function == function) (is_between r.start r.end byte) (eq-eqb r.function function same) (and_from (nat_le r.start byte) (nat_lt byte r.end) (le-leb r.start byte from) (lt-ltb byte r.end to))

pub record Held (function byte : ℕ) (r : NativeRange) : Type 0 where
  pub same : r.function ≡ function
  pub from : r.start ≤ byte
  pub to : byte < r.end

pub held : (function byte : ℕ) (r : NativeRange) → holds function byte r ≡ true → Held function byte r
held function byte r h =
    let parts = and_parts (r.function == function) (is_between r.start r.end byte) h in
    let ends = and_parts (nat_le r.start byte) (nat_lt byte r.end) parts.1 in
    record { same = eqb-true r.function function parts.0; from = leb-true r.start byte ends.0; to = ltb-true byte r.end ends.1 }

-- a byte in front: it is held, and so is what was held
first-held : (function byte : ℕ) (w : ℕ → Bool) (goes_on : Bool) (rs : List NativeRange) → Ascend function w (suc byte) rs → is_byte_of (with_byte function byte goes_on rs) function byte ≡ true
first-held function byte w goes_on [] h = or_left (holds function byte (record { function = function; start = byte; end = suc byte })) false (hold function byte (record { function = function; start = byte; end = suc byte }) refl (omega arith) (omega arith))
first-held function byte w goes_on (r ∷ rs) h = go (goes_on && (r.start == suc byte))
  where
    go : (joins : Bool) → is_byte_of (if joins then record r { start = byte } ∷ rs else record { function = function; start = byte; end = suc byte } ∷ r ∷ rs) function byte ≡ true
    go true = or_left (holds function byte (record r { start = byte })) (is_byte_of rs function byte) (hold function byte (record r { start = byte }) h.2 (omega arith) (omega (arith, h.0, h.1)))
    go false = or_left (holds function byte (record { function = function; start = byte; end = suc byte })) (is_byte_of (r ∷ rs) function byte) (hold function byte (record { function = function; start = byte; end = suc byte }) refl (omega arith) (omega arith))

others-held : (function byte b : ℕ) (goes_on : Bool) (rs : List NativeRange) → byte < b → is_byte_of rs function b ≡ true → is_byte_of (with_byte function byte goes_on rs) function b ≡ true
others-held function byte b goes_on [] below h = or_right (holds function b (record { function = function; start = byte; end = suc byte })) false h
others-held function byte b goes_on (r ∷ rs) below h = go (goes_on && (r.start == suc byte))
  where
    joined : (holds function b r ≡ true) ⊎ (is_byte_of rs function b ≡ true) → is_byte_of (record r { start = byte } ∷ rs) function b ≡ true
    joined (inl here) = let is = held function b r here in or_left (holds function b (record r { start = byte })) (is_byte_of rs function b) (hold function b (record r { start = byte }) is.same (omega (arith, below)) is.to)
    joined (inr there) = or_right (holds function b (record r { start = byte })) (is_byte_of rs function b) there

    go : (joins : Bool) → is_byte_of (if joins then record r { start = byte } ∷ rs else record { function = function; start = byte; end = suc byte } ∷ r ∷ rs) function b ≡ true
    go true = joined (or_cases (holds function b r) (is_byte_of rs function b) h)
    go false = or_right (holds function b (record { function = function; start = byte; end = suc byte })) (is_byte_of (r ∷ rs) function b) h

pub ranges-complete : (function : ℕ) (w goes_on : ℕ → Bool) (byte count b : ℕ) → byte ≤ b → b < byte + count → w b ≡ true → is_byte_of (ranges_among function w goes_on byte count) function b ≡ true
unfolding ranges_among
ranges-complete function w goes_on byte zero b from to h = absurd (omega arith)
ranges-complete function w goes_on byte (suc count) b from to h = go (w byte) refl (cases_lt byte b) (λ below. ranges-complete function w goes_on (suc byte) count b (omega (arith, below)) (omega (arith, to)) h)
  where
    go :
        (wanted : Bool) → w byte ≡ wanted → (byte < b) ⊎ (b ≤ byte) → ((byte < b) → is_byte_of (ranges_among function w goes_on (suc byte) count) function b ≡ true) →
        is_byte_of (elim wanted [ true ↦ with_byte function byte (goes_on byte) (ranges_among function w goes_on (suc byte) count) | false ↦ ranges_among function w goes_on (suc byte) count ]) function b ≡ true
    go true e (inl below) behind = others-held function byte b (goes_on byte) (ranges_among function w goes_on (suc byte) count) below (behind below)
    go true e (inr above) behind =
        let same : b ≡ byte = omega arith in
        subst (λ k. is_byte_of (with_byte function byte (goes_on byte) (ranges_among function w goes_on (suc byte) count)) function k ≡ true) (sym same) (first-held function byte w (goes_on byte) (ranges_among function w goes_on (suc byte) count) (ranges-ascend function w goes_on (suc byte) count))
    go false e (inl below) behind = behind below
    go false e (inr above) behind = let same : b ≡ byte = omega arith in absurd (true≢false (sym h ∙ ap w same ∙ e))

-- ---- the bounds of a scope, and all functions

-- a byte of a scope lies below the greatest end of its function, and its function is not above the greatest
record IsBounded (scope : List NativeRange) (function byte : ℕ) : Type 0 where
  in_functions : function ≤ greatest (map (λ r. r.function) scope)
  in_ends : byte < greatest (map (λ r. r.end) (filter (λ r. r.function == function) scope))

-- the greatest end with one range more, where it is of the function and where it is not
ends-with : (function : ℕ) (r : NativeRange) (rs : List NativeRange) → r.function ≡ function → greatest (map (λ r. r.end) (filter (λ r. r.function == function) (r ∷ rs))) ≡ max r.end (greatest (map (λ r. r.end) (filter (λ r. r.function == function) rs)))
ends-with function r rs same = rw (eq-eqb r.function function same) refl

ends-grow : (function : ℕ) (r : NativeRange) (rs : List NativeRange) → greatest (map (λ r. r.end) (filter (λ r. r.function == function) rs)) ≤ greatest (map (λ r. r.end) (filter (λ r. r.function == function) (r ∷ rs)))
ends-grow function r rs = go (r.function == function)
  where
    go : (is : Bool) → greatest (map (λ r. r.end) (filter (λ r. r.function == function) rs)) ≤ greatest (map (λ r. r.end) (cond is (r ∷ filter (λ r. r.function == function) rs) (filter (λ r. r.function == function) rs)))
    go true = omega arith
    go false = omega arith

bounded : (function byte : ℕ) (scope : List NativeRange) → is_byte_of scope function byte ≡ true → IsBounded scope function byte
bounded function byte [] h = absurd (true≢false (sym h))
bounded function byte (r ∷ rs) h = go (or_cases (holds function byte r) (is_byte_of rs function byte) h) (λ there. bounded function byte rs there)
  where
    go : (holds function byte r ≡ true) ⊎ (is_byte_of rs function byte ≡ true) → (is_byte_of rs function byte ≡ true → IsBounded rs function byte) → IsBounded (r ∷ rs) function byte
    go (inl here) behind = let is = held function byte r here in record { in_functions = omega (arith, is.same); in_ends = let e = ends-with function r rs is.same in omega (arith, e, is.to) }
    go (inr there) behind = let b = behind there in record { in_functions = omega (arith, b.in_functions); in_ends = let e = ends-grow function r rs in omega (arith, e, b.in_ends) }

-- what holds among the ranges of one of some functions holds among those of all
among-all : (ranges_of : ℕ → List NativeRange) (function byte n count : ℕ) → n ≤ function → function < n + count → is_byte_of (ranges_of function) function byte ≡ true → is_byte_of (flat_map ranges_of (range_with_len n count)) function byte ≡ true
among-all ranges_of function byte n zero from to h = absurd (omega arith)
among-all ranges_of function byte n (suc count) from to h = go (cases_lt n function) (λ below. among-all ranges_of function byte (n + 1) count (omega (arith, below)) (omega (arith, to)) h)
  where
    go : (n < function) ⊎ (function ≤ n) → ((n < function) → is_byte_of (flat_map ranges_of (range_with_len (n + 1) count)) function byte ≡ true) → is_byte_of (ranges_of n ++ flat_map ranges_of (range_with_len (n + 1) count)) function byte ≡ true
    go (inl below) behind =
        list_any-append (holds function byte) (ranges_of n) (flat_map ranges_of (range_with_len (n + 1) count))
        ∙ or_right (is_byte_of (ranges_of n) function byte) (is_byte_of (flat_map ranges_of (range_with_len (n + 1) count)) function byte) (behind below)
    go (inr above) behind =
        let same : function ≡ n = omega arith in
        list_any-append (holds function byte) (ranges_of n) (flat_map ranges_of (range_with_len (n + 1) count))
        ∙ or_left (is_byte_of (ranges_of n) function byte) (is_byte_of (flat_map ranges_of (range_with_len (n + 1) count)) function byte) (subst (λ m. is_byte_of (ranges_of m) function byte ≡ true) same h)

-- Each byte of a scope that has a place for every label is in a label range.
pub label-ranges-complete : (frame : Option Frame) (labels : List ℕ) (scope : List NativeRange) (function byte : ℕ) → is_wanted frame labels scope function byte ≡ true → is_byte_of (label_ranges frame labels scope) function byte ≡ true
label-ranges-complete frame labels scope function byte h =
    let bounds = bounded function byte scope (and_parts (is_byte_of scope function byte) (all_placed frame labels function byte) h).0 in
    among-all (ranges_of_function frame labels scope) function byte 0 (suc (greatest (map (λ r. r.function) scope))) (omega arith) (omega (arith, bounds.in_functions))
    (ranges-complete function (is_wanted frame labels scope function) (λ b. all_stay frame labels function b (suc b)) 0 (greatest (map (λ r. r.end) (filter (λ r. r.function == function) scope))) byte (omega arith) (omega (arith, bounds.in_ends)) h)
