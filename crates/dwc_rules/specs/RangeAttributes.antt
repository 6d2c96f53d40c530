-- The code that an entry has, and the attributes that say so in the output. (DWARF 4 and 5, section 2.17; this project's
-- own rules.)
use Rattle.std.specs.Prelude.{ℕ, ◌==◌, Bool, ℤ, pos, ◌-ℤ◌, nat_abs, List, [], ◌∷◌, ◌++◌, Bool, true, if◌then◌else◌, Option, Some, None, option_map, option_and_then, Result, Ok}
use Rattle.std.specs.Option.{option_or, unwrap_or}
use Rattle.std.specs.List.{filter_map, flat_map, list_any}
use Rattle.dwc_base.specs.declared.records.OutputFor.{OutputFor}
use Rattle.dwc_base.specs.declared.records.OutputFor.TheVariants.{Debugger}
use Rattle.dwc_base.specs.declared.records.Address.{Address}
use Rattle.dwc_base.specs.declared.records.Address.TheVariants.{Constant, Symbol}
use Rattle.dwc_dwarf.specs.Values.{Value, constant}
use Rattle.dwc_dwarf.specs.Entries.{Entry, attribute}
use Rattle.dwc_native.specs.Functions.{Function}
use Rattle.dwc_rules.specs.Carried.{CarriedUnit}
use Rattle.dwc_base.specs.Listing.{first_of}
use Rattle.dwc_base.specs.declared.constants.TheConstants.{DW_AT_high_pc, DW_AT_low_pc, DW_AT_ranges, DW_FORM_udata, DW_TAG_compile_unit, DW_TAG_subprogram}
use Rattle.dwc_dwarf.specs.Trees.{Interval, TreeValue, address as address_of_tree, constant as constant_of_tree, ranges}
use Rattle.dwc_dwarf.specs.RawLists.{ListSource, is_range_list}
use Rattle.dwc_dwarf.specs.Lists.{list_source, address_among, ListRefusal, interval_between, interval_of_length, ranges_of_value}
use Rattle.dwc_native.specs.Runs.{translated, native}
use Rattle.dwc_rules.specs.RangeKept.{function_of_address}
use Rattle.dwc_native.specs.ScopesKept.{number_of, native_of_intervals}

-- ---- what the input says

-- the `ranges` of an entry, where they are a range list
abbrev pub range_list_of : Entry → Option Value
range_list_of e = option_and_then (λ v. if is_range_list v then Some v else None) (attribute DW_AT_ranges e)

-- the address that an attribute of an entry says, if it says one
abbrev pub address_said : ListSource → ℕ → Entry → Option Address
address_said s name e = address_among s.indexed (attribute name e)

-- the intervals of the range list of an entry, if it has one
abbrev pub listed_intervals : ListSource → Entry → Option (List Interval)
listed_intervals s e = option_map (λ v. (ranges_of_value s e.offset v).items) (range_list_of e)

-- The address that an entry begins at: its low_pc; without one, the begin of the first interval of its range list.
abbrev pub begin_of : ListSource → Entry → Option Address
begin_of s e = option_or (address_said s DW_AT_low_pc e) (option_map (λ i. i.begin) (option_and_then first_of (listed_intervals s e)))

-- The function with a symbol that a subprogram begins in.
unfoldable pub begun_function : ListSource → List Function → Entry → Option Function
begun_function s fs e = if e.tag == DW_TAG_subprogram then option_and_then (function_of_address fs) (begin_of s e) else None

-- the interval from a low_pc to a high_pc, which is a length where it is a constant; none where it is neither that nor an
-- address
abbrev pub interval_to : ListSource → Address → Value → Option (Result (Option Interval) ListRefusal)
interval_to s low (constant form n) = Some (interval_of_length low n)
interval_to s low v = option_map (λ high. Ok (interval_between low high)) (address_among s.indexed (Some v))

-- What an entry has of the code: intervals, one address alone, or nothing.
pub data Extent : Type 0 where
  intervals : List Interval → Extent
  position : Address → Extent
  nowhere : Extent

-- an interval that is there, and not refused, as a list
abbrev pub interval_list : Result (Option Interval) ListRefusal → List Interval
interval_list (Ok (Some i)) = i ∷ []
interval_list _ = []

-- the extent from a low_pc on, with the interval to a high_pc where there is one
abbrev pub extent_from : Address → Option (Result (Option Interval) ListRefusal) → Extent
extent_from low None = position low
extent_from low (Some interval) = intervals (interval_list interval)

-- the extent by low_pc and high_pc
abbrev pub extent_of_bounds : ListSource → Entry → Extent
extent_of_bounds s e = go (address_said s DW_AT_low_pc e)
  where
    go : Option Address → Extent
    go None = nowhere
    go (Some low) = extent_from low (option_and_then (interval_to s low) (attribute DW_AT_high_pc e))

-- The extent of an entry: the intervals of its range list; without one, the interval from low_pc to high_pc; and with a
-- low_pc alone a position. What cannot be read counts as not there, and is refused in its own place.
unfoldable pub extent : ListSource → Entry → Extent
extent s e = elim (listed_intervals s e) [ Some is ↦ intervals is | None ↦ extent_of_bounds s e ]

-- ---- what the output says

-- what an address of the input becomes: its translation, or 0
abbrev pub carried_address : List Function → Address → TreeValue
carried_address fs a = address_of_tree (unwrap_or (option_and_then (translated fs) (number_of a)) (Constant 0))

-- what a range list becomes that is not the `ranges` of its entry: the list of its intervals' translations, which may be
-- empty
abbrev pub carried_ranges : List Function → List Interval → TreeValue
carried_ranges fs is = ranges (native_of_intervals fs is)

-- a low_pc and a length as high_pc
abbrev pub bounds : Address → ℕ → List (ℕ × TreeValue)
bounds low length = (DW_AT_low_pc, address_of_tree low) ∷ (DW_AT_high_pc, constant_of_tree DW_FORM_udata length) ∷ []

-- the offset of an address in its function, or the number that it is
abbrev pub offset_in : Address → ℤ
offset_in (Constant a) = pos a
offset_in (Symbol f addend) = addend

-- how long an interval is
abbrev pub length_of : Interval → ℕ
length_of i = nat_abs (offset_in i.end -ℤ offset_in i.begin)

-- What intervals of the output are said by: one alone by its bounds, but in a compile_unit always by a list.
abbrev pub said_intervals : ℕ → List Interval → List (ℕ × TreeValue)
said_intervals tag (i ∷ []) = if tag == DW_TAG_compile_unit then (DW_AT_ranges, ranges (i ∷ [])) ∷ [] else bounds i.begin (length_of i)
said_intervals tag is = (DW_AT_ranges, ranges is) ∷ []

-- what the extent of an entry of a tag is said by; no intervals and no position by nothing, and the position of a
-- compile_unit as 0
abbrev pub said_extent : List Function → ℕ → Extent → List (ℕ × TreeValue)
said_extent fs tag nowhere = []
said_extent fs tag (intervals []) = []
said_extent fs tag (intervals is) = said_intervals tag (native_of_intervals fs is)
said_extent fs tag (position a) = (DW_AT_low_pc, if tag == DW_TAG_compile_unit then address_of_tree (Constant 0) else carried_address fs a) ∷ []

-- The attributes that say where the code of an entry is. A subprogram that begins in a function with a symbol has that
-- function whole.
unfoldable pub range_attributes : ListSource → List Function → Entry → List (ℕ × TreeValue)
range_attributes s fs e = elim (begun_function s fs e) [ Some f ↦ bounds (Symbol f.number (pos 0)) f.length | None ↦ said_extent fs e.tag (extent s e) ]

-- what the list of a root counts from for a debugger, to whom it has no base by itself
abbrev pub list_base : OutputFor → Bool → List (ℕ × TreeValue)
list_base Debugger true = (DW_AT_low_pc, address_of_tree (Constant 0)) ∷ []
list_base _ _ = []

-- The attributes that say where the code of an entry is, which may be a root; for a debugger with a base in front of its list.
abbrev pub with_base : OutputFor → Bool → List (ℕ × TreeValue) → List (ℕ × TreeValue)
with_base output is_root ((name, ranges is) ∷ others) = list_base output is_root ++ (name, ranges is) ∷ others
with_base output is_root others = others

-- the function with a symbol that a subprogram of a carried unit begins in
abbrev pub begun_in_unit : CarriedUnit → Entry → Option Function
begun_in_unit u e = begun_function (list_source u.module_of.sections u.unit.header) u.module_of.functions e

-- whether a number is that of one of some functions
abbrev pub is_number_of : List Function → ℕ → Bool
is_number_of fs n = list_any (λ f. f.number == n) fs
