-- The parts of ranges of native code on which one more label has a place.
use Rattle.std.specs.Prelude.{◌≡◌, ℕ, suc, ◌≤◌, ◌<◌, min, max, nat_lt, List, [], ◌∷◌, ◌++◌, take, length, slice_index_or, true, if◌then◌else◌, Option, Some, None, All}
use Rattle.std.specs.List.{filter_map}
use Rattle.dwc_native.specs.Compiled.{Place, LabelRange}
use Rattle.dwc_native.specs.Placed.{is_number, NativeRange}

-- a part of a range: the range's number among others, the part's bytes, and the place of a label there
pub record PlacedPart : Type 0 where
  pub index : ℕ
  pub bytes : NativeRange
  pub place : Place

-- the bytes that a range with a number has in a piece, if there are any
abbrev pub cut_by : ℕ → NativeRange → LabelRange → Option PlacedPart
cut_by index r p =
    if nat_lt (max r.start p.start) (min r.end p.end)
    then Some (record { index = index; bytes = record { function = r.function; start = max r.start p.start; end = min r.end p.end }; place = p.place })
    else None

-- the parts of a range by pieces of one's own function
abbrev pub cuts_of : Option ℕ → List LabelRange → ℕ → NativeRange → List PlacedPart
cuts_of own pieces index r = if is_number own r.function then filter_map (cut_by index r) pieces else []

-- the parts of ranges, of which the first has a number
abbrev pub cuts_from : Option ℕ → List LabelRange → ℕ → List NativeRange → List PlacedPart
cuts_from own pieces index [] = []
cuts_from own pieces index (r ∷ rs) = cuts_of own pieces index r ++ cuts_from own pieces (suc index) rs

-- the first so many pieces end at a byte or in front of it
abbrev pub EndBy : ℕ → ℕ → List LabelRange → Type 0
EndBy byte count pieces = All (λ p. p.end ≤ byte) (take count pieces)

-- The pieces that are passed end in front of each of one's own ranges from a place on.
abbrev pub AllPassed : Option ℕ → List LabelRange → List NativeRange → ℕ → ℕ → Type 0
AllPassed own ps rs i next = (j : ℕ) (d : NativeRange) → i ≤ j → j < length rs → is_number own (slice_index_or rs j d).function ≡ true → EndBy (slice_index_or rs j d).start next ps
