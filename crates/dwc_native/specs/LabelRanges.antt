-- On which bytes of a scope the values lie that an expression needs: maximal ranges with unchanged places. (This project's own rule.)
use Rattle.std.specs.Prelude.{◌≡◌, ℕ, zero, suc, ◌-◌, ◌==◌, ◌≤◌, ◌<◌, ◌⊎◌, List, [], ◌∷◌, map, max, Bool, true, false, ◌&&◌, if◌then◌else◌, Option, All, AllPairs}
use Rattle.std.specs.List.{filter, list_all, flat_map, range_with_len}
use Rattle.dwc_native.specs.Placed.{Frame, all_placed, all_stay, NativeRange, is_byte_of}

-- the greatest of some numbers, 0 without any
abbrev pub greatest : List ℕ → ℕ
greatest [] = 0
greatest (n ∷ ns) = max n (greatest ns)

-- the bytes of a range
abbrev pub bytes_of : NativeRange → List ℕ
bytes_of r = range_with_len r.start (r.end - r.start)

-- a byte in front of the ranges behind it: it begins the first of them where that begins right behind it and nothing changes
-- there, and else it is a range of its own
abbrev pub with_byte : ℕ → ℕ → Bool → List NativeRange → List NativeRange
with_byte function byte goes_on [] = record { function = function; start = byte; end = suc byte } ∷ []
with_byte function byte goes_on (r ∷ rs) =
    if goes_on && (r.start == suc byte) then record r { start = byte } ∷ rs
    else record { function = function; start = byte; end = suc byte } ∷ r ∷ rs

-- The maximal ranges of a function among so many bytes from one on: of bytes that are wanted, on which nothing changes.
unfoldable pub ranges_among : ℕ → (ℕ → Bool) → (ℕ → Bool) → ℕ → ℕ → List NativeRange
ranges_among function is_wanted goes_on byte zero = []
ranges_among function is_wanted goes_on byte (suc count) = elim (is_wanted byte) [
  | true ↦ with_byte function byte (goes_on byte) (ranges_among function is_wanted goes_on (suc byte) count)
  | false ↦ ranges_among function is_wanted goes_on (suc byte) count
]

-- whether a byte is in a scope and each of some labels has a place there
abbrev pub is_wanted : Option Frame → List ℕ → List NativeRange → ℕ → ℕ → Bool
is_wanted frame labels scope function byte = is_byte_of scope function byte && all_placed frame labels function byte

-- those of one function
abbrev pub ranges_of_function : Option Frame → List ℕ → List NativeRange → ℕ → List NativeRange
ranges_of_function frame labels scope function =
    ranges_among function (is_wanted frame labels scope function) (λ byte. all_stay frame labels function byte (suc byte)) 0 (greatest (map (λ r. r.end) (filter (λ r. r.function == function) scope)))

-- The label ranges of a scope: in order of functions and bytes the maximal ranges on which each label has one unchanged place.
abbrev pub label_ranges : Option Frame → List ℕ → List NativeRange → List NativeRange
label_ranges frame labels scope = flat_map (ranges_of_function frame labels scope) (range_with_len 0 (suc (greatest (map (λ r. r.function) scope))))

-- whether each byte of a scope has a place for each label
abbrev pub all_bytes_placed : Option Frame → List ℕ → List NativeRange → Bool
all_bytes_placed frame labels scope = list_all (λ r. list_all (all_placed frame labels r.function) (bytes_of r)) scope

-- ---- what the words say, and the law on it

-- one range lies before another
abbrev pub IsBefore : NativeRange → NativeRange → Type 0
IsBefore r s = (r.function < s.function) ⊎ ((r.function ≡ s.function) × (r.end ≤ s.start))

-- what is so at each byte of a range
abbrev pub AtEachByte : (ℕ → Type 0) → NativeRange → Type 0
AtEachByte P r = (byte : ℕ) → r.start ≤ byte → byte < r.end → P byte

-- Ranges are disjoint and in order, none is empty, and they lie in a scope and have a place for every label.
pub record AreLabelRanges (frame : Option Frame) (labels : List ℕ) (scope : List NativeRange) (ranges : List NativeRange) : Type 0 where
  pub ordered : AllPairs IsBefore ranges
  pub nonempty : All (λ r. r.start < r.end) ranges
  pub inside : All (λ r. AtEachByte (λ byte. is_byte_of scope r.function byte ≡ true) r) ranges
  pub placed : All (λ r. AtEachByte (λ byte. all_placed frame labels r.function byte ≡ true) r) ranges

-- They are the maximal ones: besides, no place changes within one, each byte of the scope that has all places is in one, and
-- where two touch some place changes.
pub record AreMaximal (frame : Option Frame) (labels : List ℕ) (scope : List NativeRange) (ranges : List NativeRange) : Type 0 where
  pub whole : AreLabelRanges frame labels scope ranges
  pub unchanged : All (λ r. AtEachByte (λ byte. all_stay frame labels r.function r.start byte ≡ true) r) ranges
  pub complete : (function byte : ℕ) → is_wanted frame labels scope function byte ≡ true → is_byte_of ranges function byte ≡ true
  pub maximal : AllPairs (λ r s. (r.function ≡ s.function) → (r.end ≡ s.start) → all_stay frame labels r.function r.start s.start ≡ false) ranges

-- The laws: the label ranges are the maximal ones, and no other ranges are.
abbrev pub LabelRangesAreMaximal : Type 0
LabelRangesAreMaximal = (frame : Option Frame) (labels : List ℕ) (scope : List NativeRange) → AreMaximal frame labels scope (label_ranges frame labels scope)

abbrev pub MaximalRangesAreThese : Type 0
MaximalRangesAreThese = (frame : Option Frame) (labels : List ℕ) (scope ranges : List NativeRange) → AreMaximal frame labels scope ranges → ranges ≡ label_ranges frame labels scope
