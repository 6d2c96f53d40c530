-- Where the values of a compiled function lie, as values.
use Rattle.std.specs.Prelude.{ℕ, List}
use Rattle.std.specs.Coded.{Coded, codes, coded_list, coded_ℕ}
use Rattle.std.specs.Ordering.{nat_cmp}
use Rattle.std.specs.FinMap as finite
use Rattle.dwc_native.specs.Compiled.{Place, in_register, at_frame_offset, LabelRange}
use Rattle.dwc_isa.specs.declared.value_label.LabelValueLoc.{LabelValueLoc}
use Rattle.dwc_isa.specs.declared.value_label.LabelValueLoc.TheVariants.{Reg, CFAOffset}
use Rattle.dwc_isa.specs.declared.value_label.ValueLocRange.{ValueLocRange}

-- a place, as the definitions have it
abbrev pub place_view : LabelValueLoc → Place
place_view (Reg register) = in_register register.0
place_view (CFAOffset offset) = at_frame_offset offset

-- a range
abbrev pub range_view : ValueLocRange → LabelRange
range_view r = record { place = place_view r.loc; start = r.start; end = r.end }

-- the ranges of each label
abbrev pub LabelledRanges : Type 0
LabelledRanges = finite.FinMap nat_cmp (List LabelRange)

range_code : Coded LabelRange
range_code = hlevel codes

pub ranges_code : Coded (List LabelRange)
ranges_code = coded_list range_code

pub labelled_code : Coded LabelledRanges
labelled_code = finite.code coded_ℕ ranges_code

-- the ranges of each label, by a list with one entry for each
abbrev pub labelled_by : List (ℕ × List LabelRange) → LabelledRanges
labelled_by entries = finite.from_entries entries
