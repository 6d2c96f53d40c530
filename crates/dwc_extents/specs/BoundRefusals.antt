-- What is refused of a bound of an entry, behind the attributes before it.
use Rattle.std.specs.Prelude.{◌≡◌, ℕ, ◌==◌, List, ◌&&◌, if◌then◌else◌, Option, Some, None}
use Rattle.dwc_base.specs.declared.constants.TheConstants.{DW_AT_ranges}
use Rattle.dwc_dwarf.specs.Values.{Value}
use Rattle.dwc_dwarf.specs.Entries.{Entry}
use Rattle.dwc_dwarf.specs.RawLists.{ListSource, is_range_list}
use Rattle.dwc_dwarf.specs.Lists.{ListRefusal, ranges_of_value}
use Rattle.dwc_rules.specs.RangeAttributes.{range_list_of}
use Rattle.dwc_rules.specs.RangeRefusals.{bounds_refusal, is_later_bound}

-- what is refused of the range list that a bound of an entry at an offset names, if it names one
abbrev pub list_refusal : ListSource → ℕ → ℕ × Value → Option ListRefusal
list_refusal s offset a = if (a.0 == DW_AT_ranges) && is_range_list a.1 then (ranges_of_value s offset a.1).fault else None

-- what is refused of the interval between both bounds, at the later one of them
abbrev pub interval_refusal : ListSource → Entry → List (ℕ × Value) → ℕ × Value → Option ListRefusal
interval_refusal s e before a = if is_later_bound before a then bounds_refusal s e else None

-- Nothing is refused of the extent of an entry: of its range list, or else of the interval between its bounds.
pub record IsSound (s : ListSource) (e : Entry) : Type 0 where
  pub listed : (v : Value) → range_list_of e ≡ Some v → (ranges_of_value s e.offset v).fault ≡ None
  pub bounded : bounds_refusal s e ≡ None
