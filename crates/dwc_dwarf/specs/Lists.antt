-- The intervals that a range list or a location list stands for. (DWARF 4, sections 2.17.3 and 2.6.2; DWARF 5, sections
-- 2.17.3 and 2.6.2.)
use Rattle.std.specs.Prelude.{ℕ, ◌+◌, ◌^◌, ◌%◌, ◌==◌, pos, ◌+ℤ◌, List, [], ◌∷◌, map, zip, Bool, false, nat_lt, int_lt, ◌&&◌, if◌then◌else◌, Option, Some, None, option_map, option_and_then, Result, Ok, Err}
use Rattle.std.specs.Option.{unwrap_or}
use Rattle.std.specs.List.{filter_map}
use Rattle.std.specs.Int.{w64, int_wrap}
use Rattle.dwc_base.specs.declared.records.Address.{Address}
use Rattle.dwc_base.specs.declared.records.Address.TheVariants.{Constant, Symbol}
use Rattle.dwc_base.specs.declared.section_name.SectionName.TheVariants.{Info, Loclists, Rnglists}
use Rattle.dwc_base.specs.declared.faults.What.{What}
use Rattle.dwc_base.specs.declared.faults.What.TheVariants.{LocationList, RangeList}
use Rattle.dwc_base.specs.declared.faults.Flaw.{Flaw}
use Rattle.dwc_base.specs.Reading.{◌>>=◌}
use Rattle.dwc_base.specs.Listing.{Listing, only_fault, with_first}
use Rattle.dwc_base.specs.Sections.{Sections, Fault, fault_of}
use Rattle.dwc_base.specs.Units.{UnitHeader}
use Rattle.dwc_dwarf.specs.Values.{Value, address, address_index}
use Rattle.dwc_dwarf.specs.Entries.{entries, attribute}
use Rattle.dwc_base.specs.Listing.{first_of}
use Rattle.dwc_base.specs.declared.constants.TheConstants.{DW_AT_low_pc}
use Rattle.dwc_dwarf.specs.Trees.{Interval}
use Rattle.dwc_dwarf.specs.Indexed.{index_base, address_indexed}
use Rattle.dwc_dwarf.specs.RawLists.{ListSource, ListPlace, list_named, list_fault, RawEntry, base_addressx, startx_endx, startx_length, offset_pair, base_address, start_end, start_length, pair, base_selection, raw_ranges, PlacedExpression, RawLocation, raw_locations}

-- ---- a unit's own base

-- the address that a value says, in place or by an index; none where it is no address or cannot be read
abbrev pub address_among : (ℕ → Result Address Flaw) → Option Value → Option Address
address_among indexed (Some (address a)) = Some a
address_among indexed (Some (address_index i)) = elim (indexed i) [ Ok a ↦ Some a | Err flaw ↦ None ]
address_among indexed _ = None

-- The base that the lists of a unit begin with: the low_pc of its root, or 0.
unfoldable pub first_base_of : Sections → UnitHeader → Address
first_base_of s h = unwrap_or (address_among (address_indexed s h) (option_and_then (attribute DW_AT_low_pc) (first_of (entries s h).items))) (Constant 0)

-- what the lists of a unit of a section are read by
unfoldable pub list_source : Sections → UnitHeader → ListSource
list_source s h = record {
  sections = s;
  version = h.version;
  address_size = h.address_size;
  ranges_base = unwrap_or (index_base s h Rnglists) 0;
  locations_base = unwrap_or (index_base s h Loclists) 0;
  indexed = address_indexed s h;
  first_base = first_base_of s h;
}

-- ---- what an entry gives

-- Why a list, or an interval, is refused: it cannot be read, or a start plus a length is no address.
pub data ListRefusal : Type 0 where
  of_place : Fault → ListRefusal
  long_range : ListRefusal

-- a number from a base on, modulo 2 ^ 64
abbrev pub from_base : Address → ℕ → Address
from_base (Constant b) n = Constant ((b + n) % 2 ^ 64)
from_base (Symbol f addend) n = Symbol f (int_wrap w64 (addend +ℤ pos n))

-- an end of a pair of addresses from a base on; a function's address takes no base
abbrev pub end_from_base : Address → Address → Address
end_from_base base (Constant n) = from_base base n
end_from_base base (Symbol f addend) = Symbol f addend

-- a start plus a length, where that is an address
abbrev pub plus_length : Address → ℕ → Option Address
plus_length (Constant a) n = if nat_lt (a + n) (2 ^ 64) then Some (Constant (a + n)) else None
plus_length (Symbol f addend) n = if int_lt (addend +ℤ pos n) (pos (2 ^ 63)) then Some (Symbol f (addend +ℤ pos n)) else None

-- whether an address is below another: two numbers, or two addresses of one function
abbrev pub is_below : Address → Address → Bool
is_below (Constant a) (Constant b) = nat_lt a b
is_below (Symbol f a) (Symbol g b) = (f == g) && int_lt a b
is_below _ _ = false

-- the interval of two ends, if its begin is below its end
abbrev pub interval_between : Address → Address → Option Interval
interval_between begin end = if is_below begin end then Some (record { begin = begin; end = end }) else None

-- the interval of a start and a length
abbrev pub interval_of_length : Address → ℕ → Result (Option Interval) ListRefusal
interval_of_length start n = elim (plus_length start n) [ None ↦ Err long_range | Some end ↦ Ok (interval_between start end) ]

-- an address by an index, told at the list where it cannot be read
abbrev pub indexed_at : ListSource → (Flaw → Fault) → ℕ → Result Address ListRefusal
indexed_at s told i = elim (s.indexed i) [ Ok a ↦ Ok a | Err flaw ↦ Err (of_place (told flaw)) ]

-- the interval that an entry gives at a base, if it gives one; a default location gives none
unfoldable pub interval_given : ListSource → (Flaw → Fault) → Address → RawEntry → Result (Option Interval) ListRefusal
interval_given s told base (startx_endx i j) = indexed_at s told i >>= λ begin. indexed_at s told j >>= λ end. Ok (interval_between begin end)
interval_given s told base (startx_length i n) = indexed_at s told i >>= λ start. interval_of_length start n
interval_given s told base (offset_pair b e) = Ok (interval_between (from_base base b) (from_base base e))
interval_given s told base (start_end begin end) = Ok (interval_between begin end)
interval_given s told base (start_length start n) = interval_of_length start n
interval_given s told base (pair begin end) = Ok (interval_between (end_from_base base begin) (end_from_base base end))
interval_given s told base _ = Ok None

-- the base behind an entry: the one that it selects, else the one before
unfoldable pub base_behind : ListSource → (Flaw → Fault) → Address → RawEntry → Result Address ListRefusal
base_behind s told base (base_addressx i) = indexed_at s told i
base_behind s told base (base_address a) = Ok a
base_behind s told base (base_selection a) = Ok a
base_behind s told base _ = Ok base

-- What each entry of a list gives from a base on, up to the first that is refused.
unfoldable pub intervals_given : ListSource → (Flaw → Fault) → Address → List RawEntry → Option Fault → Listing ListRefusal (Option Interval)
intervals_given s told base [] last = record { items = []; fault = option_map of_place last }
intervals_given s told base (e ∷ es) last = elim (interval_given s told base e) [
  | Err refusal ↦ only_fault refusal
  | Ok interval ↦ elim (base_behind s told base e) [ Err refusal ↦ only_fault refusal | Ok next ↦ with_first interval (intervals_given s told next es last) ]
]

-- ---- lists

-- The intervals of the range list at a place.
unfoldable pub ranges_at : ListSource → ListPlace → Listing ListRefusal Interval
ranges_at s l = nonempty (intervals_given s (list_fault RangeList l) s.first_base (raw_ranges s l).items (raw_ranges s l).fault)
  where
    nonempty : Listing ListRefusal (Option Interval) → Listing ListRefusal Interval
    nonempty given = record { items = filter_map (λ i. i) given.items; fault = given.fault }

-- an interval of a location list, with its expression
pub record ListedLocation : Type 0 where
  pub over : Interval
  pub holds : PlacedExpression

-- what an entry gives, with its expression; none where either is missing
abbrev pub with_expression : Option Interval × Option PlacedExpression → Option ListedLocation
with_expression p = option_and_then (λ interval. option_map (λ x. record { over = interval; holds = x }) p.1) p.0

-- The intervals of the location list at a place, with their expressions.
unfoldable pub locations_at : ListSource → ListPlace → Listing ListRefusal ListedLocation
locations_at s l = go (raw_locations s l)
  where
    paired : List RawLocation → Listing ListRefusal (Option Interval) → Listing ListRefusal ListedLocation
    paired raw given = record { items = filter_map with_expression (zip given.items (map (λ r. r.holds) raw)); fault = given.fault }

    go : Listing Fault RawLocation → Listing ListRefusal ListedLocation
    go raw = paired raw.items (intervals_given s (list_fault LocationList l) s.first_base (map (λ r. r.says) raw.items) raw.fault)

-- ---- lists of an entry

-- what a list by a value is, by a reader of lists: nothing for a value that names no list; an index that names none is
-- told at the entry's offset
abbrev pub list_of_value : {A : Type 0} → What → ℕ → (ListPlace → Listing ListRefusal A) → Option (Result ListPlace Flaw) → Listing ListRefusal A
list_of_value what offset reader None = record { items = []; fault = None }
list_of_value what offset reader (Some (Err flaw)) = only_fault (of_place (fault_of what Info offset flaw))
list_of_value what offset reader (Some (Ok l)) = reader l

-- The intervals of the range list that a value names, of an entry at an offset.
unfoldable pub ranges_of_value : ListSource → ℕ → Value → Listing ListRefusal Interval
ranges_of_value s offset v = list_of_value RangeList offset (ranges_at s) (list_named s v)

-- The intervals of the location list that a value names, of an entry at an offset, with their expressions.
unfoldable pub locations_of_value : ListSource → ℕ → Value → Listing ListRefusal ListedLocation
locations_of_value s offset v = list_of_value LocationList offset (locations_at s) (list_named s v)
