-- The places that a frame tells of a label: of which function, and in which ranges of its code.
use Rattle.std.specs.Prelude.{ℕ, List, [], Bool, is_some, if◌then◌else◌, Option, Some, None}
use Rattle.std.specs.List.{list_all}
use Rattle.dwc_native.specs.Compiled.{Place, LabelRange}
use Rattle.dwc_native.specs.Placed.{last_place, is_number, NativeRange}
use Rattle.dwc_native.specs.LabelRanges.{bytes_of}
use Rattle.dwc_expr.specs.Frames.{ToldFrame, frame_of}

-- the number of the function in whose code values have places, if it has a symbol
abbrev pub own_function : Option ToldFrame → Option ℕ
own_function None = None
own_function (Some f) = f.symbol

-- the ranges of a label
abbrev pub own_ranges : Option ToldFrame → ℕ → List LabelRange
own_ranges None label = []
own_ranges (Some f) label = (frame_of f).ranges_of label

-- the place at a byte of a function by the ranges of a label in one's own function
abbrev pub place_in : Option ℕ → List LabelRange → ℕ → ℕ → Option Place
place_in own pieces function byte = if is_number own function then last_place pieces byte else None

-- whether each byte of a range has a place, and whether each byte of some ranges has one
abbrev pub is_filled : Option ℕ → List LabelRange → NativeRange → Bool
is_filled own pieces r = list_all (λ byte. is_some (place_in own pieces r.function byte)) (bytes_of r)

abbrev pub are_filled : Option ℕ → List LabelRange → List NativeRange → Bool
are_filled own pieces ranges = list_all (is_filled own pieces) ranges
