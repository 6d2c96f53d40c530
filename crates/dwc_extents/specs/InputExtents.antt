-- What the input says of the code of entries.
use Rattle.std.specs.Prelude.{ℕ, ⊤, IsTrue, Option, Some, None, option_map, option_to_list, Result, Ok}
use Rattle.dwc_base.specs.declared.records.Address.{Address}
use Rattle.dwc_dwarf.specs.Lists.{ListRefusal, interval_between, interval_of_length, ranges_of_value}
use Rattle.dwc_rules.specs.RangeAttributes.{Extent, intervals, position, nowhere}
use Rattle.dwc_dwarf.specs.RawLists.{ListSource, is_range_list}
use Rattle.dwc_dwarf.specs.Trees.{Interval}
use Rattle.dwc_dwarf.specs.Values.{Value, constant}
use Rattle.dwc_read.specs.ValuesSeen.{value_view}
use Rattle.dwc_tabs.specs.RangeEnds.{interval_view}
use Rattle.dwc_extents.specs.declared.input_extent.CodeEnd.{CodeEnd}
use Rattle.dwc_extents.specs.declared.input_extent.CodeEnd.TheVariants.{At, Behind}
use Rattle.dwc_extents.specs.declared.input_extent.InputExtent.{InputExtent}
use Rattle.dwc_extents.specs.declared.input_extent.InputExtent.TheVariants.{Listed, Bounded, Position, Nowhere}

-- the value of a constant
abbrev pub constant_said : Value → Option ℕ
constant_said (constant form n) = Some n
constant_said _ = None

-- the interval from a begin to an end
abbrev pub interval_up_to : Address → CodeEnd → Result (Option Interval) ListRefusal
interval_up_to begin (At end) = Ok (interval_between begin end)
interval_up_to begin (Behind n) = interval_of_length begin n

-- the extent that is said of an entry at an offset
abbrev pub extent_said : ListSource → ℕ → InputExtent → Extent
extent_said s offset (Listed v) = intervals (ranges_of_value s offset (value_view v)).items
extent_said s offset (Bounded i) = intervals (option_to_list (option_map interval_view i))
extent_said s offset (Position a) = position a
extent_said s offset Nowhere = nowhere

-- a list that is said is one of ranges
abbrev pub NamesRanges : InputExtent → Type 0
NamesRanges (Listed v) = IsTrue (is_range_list (value_view v))
NamesRanges (Bounded i) = ⊤
NamesRanges (Position a) = ⊤
NamesRanges Nowhere = ⊤
