-- What the reading of lists and intervals refuses, in the order of reading. (This project's own order.)
use Rattle.std.specs.Prelude.{ℕ, ◌==◌, List, [], ◌∷◌, ◌++◌, map, Bool, not, ◌&&◌, if◌then◌else◌, Option, Some, None, option_map, option_and_then, option_to_list, is_some, Result, Ok, Err}
use Rattle.std.specs.Option.{option_or}
use Rattle.std.specs.List.{filter_map, flat_map, list_any}
use Rattle.dwc_base.specs.declared.section_name.SectionName.TheVariants.{Info}
use Rattle.dwc_base.specs.declared.faults.What.TheVariants.{AddressValue, RangeList}
use Rattle.dwc_base.specs.declared.faults.Flaw.{Flaw}
use Rattle.dwc_base.specs.Sections.{Fault, fault_of}
use Rattle.dwc_dwarf.specs.Values.{Value, address_index}
use Rattle.dwc_dwarf.specs.Entries.{Entry, attribute}
use Rattle.dwc_native.specs.Functions.{Function}
use Rattle.dwc_base.specs.declared.constants.TheConstants.{DW_AT_high_pc, DW_AT_low_pc, DW_AT_ranges, DW_TAG_subprogram}
use Rattle.dwc_dwarf.specs.Trees.{Interval}
use Rattle.dwc_dwarf.specs.RawLists.{ListSource, ListPlace, list_named, list_fault, is_range_list, RawEntry, base_addressx, startx_endx, startx_length, raw_ranges}
use Rattle.dwc_dwarf.specs.Lists.{ListRefusal, of_place, ranges_of_value}
use Rattle.dwc_rules.specs.RangeAttributes.{range_list_of, address_said, interval_to, begun_function}

-- the flaw that a reading has, if it has one
abbrev pub flaw_in : {A : Type 0} → Result A Flaw → Option Flaw
flaw_in (Ok x) = None
flaw_in (Err flaw) = Some flaw

-- what cannot be read of the address that a value says by an index; it is told at the entry's offset
abbrev pub index_fault : ListSource → ℕ → Value → Option Fault
index_fault s offset (address_index i) = option_map (fault_of AddressValue Info offset) (flaw_in (s.indexed i))
index_fault s offset _ = None

-- ---- subprograms, as they are read to know which are required

-- the indexes of addresses that an entry of a list names
abbrev pub indexes_named : RawEntry → List ℕ
indexes_named (base_addressx i) = i ∷ []
indexes_named (startx_endx i j) = i ∷ j ∷ []
indexes_named (startx_length i n) = i ∷ []
indexes_named _ = []

-- what cannot be read of some addresses by an index, each told at their list
abbrev pub indexes_faults : ListSource → ListPlace → List RawEntry → List Fault
indexes_faults s l es = map (list_fault RangeList l) (filter_map (λ i. flaw_in (s.indexed i)) (flat_map indexes_named es))

-- what cannot be read of the range list at a place, without its sums: its entries and the addresses that they name
abbrev pub whole_list_faults : ListSource → ListPlace → List Fault
whole_list_faults s l = indexes_faults s l (raw_ranges s l).items ++ option_to_list (raw_ranges s l).fault

-- the same of a list of an entry at an offset, if it can be found; an index that names none is told at the entry
abbrev pub found_list_faults : ListSource → ℕ → Option (Result ListPlace Flaw) → List Fault
found_list_faults s offset None = []
found_list_faults s offset (Some (Err flaw)) = fault_of RangeList Info offset flaw ∷ []
found_list_faults s offset (Some (Ok l)) = whole_list_faults s l

-- what cannot be read of the range list that a value names, of an entry at an offset
abbrev pub list_faults : ListSource → ℕ → Value → List Fault
list_faults s offset v = if is_range_list v then found_list_faults s offset (list_named s v) else []

-- What cannot be read of a subprogram: its range list whole, and then the address by an index that its low_pc is.
abbrev pub subprogram_faults : ListSource → Entry → List Fault
subprogram_faults s e =
    if e.tag == DW_TAG_subprogram
    then flat_map (list_faults s e.offset) (option_to_list (attribute DW_AT_ranges e)) ++ filter_map (index_fault s e.offset) (option_to_list (attribute DW_AT_low_pc e))
    else []

-- ---- kept entries of carried units

-- whether an entry is a subprogram that begins in a function by its low_pc; its list and its high_pc are not looked at then
abbrev pub begins_by_low_pc : ListSource → List Function → Entry → Bool
begins_by_low_pc s fs e = is_some (begun_function s fs e) && is_some (address_said s DW_AT_low_pc e)

-- the refusal of the interval from an entry's low_pc to its high_pc, where that is what it has
abbrev pub bounds_refusal : ListSource → Entry → Option ListRefusal
bounds_refusal s e = elim (range_list_of e) [ Some v ↦ None | None ↦ refusal_in (option_and_then (λ low. option_and_then (interval_to s low) (attribute DW_AT_high_pc e)) (address_said s DW_AT_low_pc e)) ]
  where
    refusal_in : Option (Result (Option Interval) ListRefusal) → Option ListRefusal
    refusal_in (Some (Err refusal)) = Some refusal
    refusal_in _ = None

-- whether some attributes have a name
abbrev pub has_name : ℕ → List (ℕ × Value) → Bool
has_name name attributes = list_any (λ a. a.0 == name) attributes

-- whether some attributes have both bounds
abbrev pub has_bounds : List (ℕ × Value) → Bool
has_bounds attributes = has_name DW_AT_low_pc attributes && has_name DW_AT_high_pc attributes

-- whether an attribute behind others is the later one of the two bounds
abbrev pub is_later_bound : List (ℕ × Value) → ℕ × Value → Bool
is_later_bound before a = has_bounds (a ∷ before) && not (has_bounds before)

-- what is refused of a bound behind some others: its range list, or the interval of both bounds at the later of them
abbrev pub extent_refusal : ListSource → Entry → List (ℕ × Value) → ℕ × Value → Option ListRefusal
extent_refusal s e before a = option_or (if (a.0 == DW_AT_ranges) && is_range_list a.1 then (ranges_of_value s e.offset a.1).fault else None) (if is_later_bound before a then bounds_refusal s e else None)

-- What is refused of `low_pc`, `high_pc` or `ranges` of a kept entry, behind some others: an address by an index; and
-- what else it says of the extent, unless the entry begins in a function by its low_pc.
unfoldable pub bound_refusal : ListSource → List Function → Entry → List (ℕ × Value) → ℕ × Value → Option ListRefusal
bound_refusal s fs e before a = option_or (option_map of_place (index_fault s e.offset a.1)) (if begins_by_low_pc s fs e then None else extent_refusal s e before a)
