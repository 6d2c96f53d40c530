-- Range lists and location lists as they stand. Up to version 4, in `.debug_ranges` and `.debug_loc`: pairs of addresses, of which two zeros
-- end a list; in a location list an expression stands behind each pair, in front of it its length. From version 5 on, in `.debug_rnglists`
-- and `.debug_loclists`: entries of an address and a length, of which a zero ends a list, behind a header for the lists of a unit.
-- (DWARF 4, sections 2.17.3 and 2.6.2; DWARF 5, sections 7.25, 7.28 and 7.29.)
use Rattle.std.specs.Prelude.{ℕ, ◌+◌, ◌^◌, ◌<◌, ◌≤◌, ◌==◌, List, [], ◌∷◌, ◌++◌, map, length, sum_by, Bool, true, false, if◌then◌else◌, Option, Some, None}
use Rattle.std.specs.List.{flat_map}
use Rattle.dwc_base.specs.declared.constants.TheConstants.{DW_LLE_start_length, DW_RLE_end_of_list, DW_RLE_start_length}
use Rattle.dwc_base.specs.declared.records.Endian.{Endian}
use Rattle.dwc_base.specs.declared.records.Address.{Address}
use Rattle.dwc_base.specs.declared.records.Address.TheVariants.{Constant}
use Rattle.dwc_base.specs.NumberBytes.{number_bytes, uleb_bytes}
use Rattle.dwc_base.specs.Outputs.{OutputRelocation}
use Rattle.dwc_dwarf.specs.Trees.{Location}
use Rattle.dwc_output.specs.Versions.{is_old}
use Rattle.dwc_unit.specs.declared.attributes.Attribute.{Attribute}
use Rattle.dwc_unit.specs.declared.attributes.AttributeValue.{AttributeValue}
use Rattle.dwc_unit.specs.declared.attributes.AttributeValue.TheVariants.{RangeListRef, LocationListRef}
use Rattle.dwc_unit.specs.declared.expressions.Expression.{Expression}
use Rattle.dwc_unit.specs.declared.lists.ListPlaces.{ListPlaces}
use Rattle.dwc_unit.specs.declared.lists.ListKind.{ListKind}
use Rattle.dwc_unit.specs.declared.lists.ListKind.TheVariants.{Ranges, Locations}
use Rattle.dwc_section.specs.Spelled.{at_places, sized_bytes}
use Rattle.dwc_section.specs.SpelledAddresses.{AddressField, address_bytes}
use Rattle.dwc_unit.specs.RangeLists.{address_behind, interval_of, FitsEnds, FitsRange}
use Rattle.dwc_section.specs.Writers.{address_relocations, most_bytes}

-- ---- an entry of a list

-- where it begins, how many bytes it has, and in a location list the expression that holds there
pub record ListEntry : Type 0 where
  pub begin : Address
  pub extent : ℕ
  pub holds : Option (List ℕ)

-- where it ends
abbrev pub end_of : ListEntry → Address
end_of e = address_behind e.begin e.extent

-- the length of an expression: of two bytes up to version 4, then of as many as it needs
abbrev pub count_bytes : ℕ → Endian → ℕ → List ℕ
count_bytes version order count = if is_old version then number_bytes order 2 count else uleb_bytes count

abbrev pub count_length : ℕ → ℕ → ℕ
count_length version count = if is_old version then 2 else length (uleb_bytes count)

-- an expression behind its length
abbrev pub held_bytes : ℕ → Endian → Option (List ℕ) → List ℕ
held_bytes version order None = []
held_bytes version order (Some bytes) = count_bytes version order (length bytes) ++ bytes

abbrev pub held_length : ℕ → Option (List ℕ) → ℕ
held_length version None = 0
held_length version (Some bytes) = count_length version (length bytes) + length bytes

-- both ends, and the expression
abbrev pub pair_bytes : ℕ → Endian → ℕ → ListEntry → List ℕ
pair_bytes version order size e = address_bytes order size e.begin ++ (address_bytes order size (end_of e) ++ held_bytes version order e.holds)

abbrev pub pair_relocations : Endian → ℕ → ℕ → ListEntry → List OutputRelocation
pair_relocations order size place e = address_relocations place size e.begin ++ address_relocations (place + length (address_bytes order size e.begin)) size (end_of e)

abbrev pub pair_fields : Endian → ℕ → ℕ → ListEntry → List AddressField
pair_fields order size place e =
    record { offset = place; size = size; address = e.begin } ∷ record { offset = place + length (address_bytes order size e.begin); size = size; address = end_of e } ∷ []

-- the kind of an entry with an address and a length, in a range list and in a location list
abbrev pub kind_of : Option (List ℕ) → ℕ
kind_of None = DW_RLE_start_length
kind_of (Some bytes) = DW_LLE_start_length

-- its kind, where it begins and its length, and the expression
abbrev pub extent_bytes : ℕ → Endian → ℕ → ListEntry → List ℕ
extent_bytes version order size e = kind_of e.holds ∷ (address_bytes order size e.begin ++ (uleb_bytes e.extent ++ held_bytes version order e.holds))

-- the same, or the end of a list
abbrev pub counted_bytes : ℕ → Endian → ℕ → ListEntry → List ℕ
counted_bytes version order size e = if e.extent == 0 then DW_RLE_end_of_list ∷ [] else extent_bytes version order size e

abbrev pub counted_length : ℕ → ℕ → ListEntry → ℕ
counted_length version size e = if e.extent == 0 then 1 else 1 + (size + (length (uleb_bytes e.extent) + held_length version e.holds))

abbrev pub counted_relocations : ℕ → ℕ → ListEntry → List OutputRelocation
counted_relocations size place e = if e.extent == 0 then [] else address_relocations (place + 1) size e.begin

abbrev pub counted_fields : ℕ → ℕ → ListEntry → List AddressField
counted_fields size place e = if e.extent == 0 then [] else record { offset = place + 1; size = size; address = e.begin } ∷ []

-- an entry of a version
abbrev pub listed_bytes : ℕ → Endian → ℕ → ListEntry → List ℕ
listed_bytes version order size e = if is_old version then pair_bytes version order size e else counted_bytes version order size e

abbrev pub listed_length : ℕ → ℕ → ListEntry → ℕ
listed_length version size e = if is_old version then (size + size) + held_length version e.holds else counted_length version size e

abbrev pub listed_relocations : ℕ → Endian → ℕ → ℕ → ListEntry → List OutputRelocation
listed_relocations version order size place e = if is_old version then pair_relocations order size place e else counted_relocations size place e

abbrev pub listed_fields : ℕ → Endian → ℕ → ℕ → ListEntry → List AddressField
listed_fields version order size place e = if is_old version then pair_fields order size place e else counted_fields size place e

-- An expression's length fits two bytes, where it has two.
abbrev pub FitsCount : Bool → List ℕ → Type 0
FitsCount true bytes = length bytes < 2 ^ 16
FitsCount false bytes = Unit {0}

abbrev pub IsShort : ℕ → Option (List ℕ) → Type 0
IsShort version None = Unit {0}
IsShort version (Some bytes) = FitsCount (is_old version) bytes

-- Both ends of an entry fit their fields, and its expression is short.
pub record FitsListed (version size : ℕ) (e : ListEntry) : Type 0 where
  pub ends : FitsEnds size (e.begin, e.extent)
  pub short : IsShort version e.holds

-- ---- entries one behind another

abbrev pub list_bytes : ℕ → Endian → ℕ → List ListEntry → List ℕ
list_bytes version order size es = flat_map (listed_bytes version order size) es

abbrev pub list_length : ℕ → ℕ → List ListEntry → ℕ
list_length version size es = sum_by (listed_length version size) es

abbrev pub list_relocations : ℕ → Endian → ℕ → ℕ → List ListEntry → List OutputRelocation
list_relocations version order size place es = at_places (listed_bytes version order size) (listed_relocations version order size) place es

abbrev pub list_fields : ℕ → Endian → ℕ → ℕ → List ListEntry → List AddressField
list_fields version order size place es = at_places (listed_bytes version order size) (listed_fields version order size) place es

-- ---- the lists of a unit: from version 5 on behind a header

-- behind the length: the version, the size of an address, that of segments, and the number of offsets
abbrev pub lists_header : ℕ → Endian → ℕ → List ℕ
lists_header version order size = number_bytes order 2 version ++ (size ∷ 0 ∷ number_bytes order 4 0)

-- lists behind their header; nothing where there are none
abbrev pub headed_bytes : ℕ → Endian → ℕ → List ListEntry → List ℕ
headed_bytes version order size [] = []
headed_bytes version order size (e ∷ es) = sized_bytes order (lists_header version order size ++ list_bytes version order size (e ∷ es))

abbrev pub contribution_bytes : ℕ → Endian → ℕ → List ListEntry → List ℕ
contribution_bytes version order size es = if is_old version then list_bytes version order size es else headed_bytes version order size es

-- where the first list stands behind the begin of the unit's lists
abbrev pub lists_begin : ℕ → ℕ
lists_begin version = if is_old version then 0 else 12

abbrev pub contribution_relocations : ℕ → Endian → ℕ → ℕ → List ListEntry → List OutputRelocation
contribution_relocations version order size place es = list_relocations version order size (place + lists_begin version) es

abbrev pub contribution_fields : ℕ → Endian → ℕ → ℕ → List ListEntry → List AddressField
contribution_fields version order size place es = list_fields version order size (place + lists_begin version) es

-- ---- lists as they are given

-- an interval of a range list has no expression
abbrev pub range_entry : Address × ℕ → ListEntry
range_entry r = record { begin = r.0; extent = r.1; holds = None }

-- one of a location list has one
abbrev pub location_entry : Address × ℕ × Expression → ListEntry
location_entry l = record { begin = l.0; extent = l.1; holds = Some l.2 }

-- the same as it is read
abbrev pub location_of : Address × ℕ × Expression → Location
location_of l = record { over = interval_of (l.0, l.1); bytes = l.2 }

-- The interval of a location begins at a function and is not empty.
abbrev pub FitsLocation : ℕ → Address × ℕ × Expression → Type 0
FitsLocation size l = FitsRange size (l.0, l.1)

-- two zeros, or one
abbrev pub list_end : ListEntry
list_end = record { begin = Constant 0; extent = 0; holds = None }

-- what stands in the place of a list: its entries, and its end
abbrev pub ended : List ListEntry → List ListEntry
ended es = es ++ (list_end ∷ [])

-- ---- lists of values

-- what stands in the section of range lists for a value
abbrev pub ranges_in : AttributeValue → List ListEntry
ranges_in (RangeListRef list) = ended (map range_entry list.ranges.items)
ranges_in _ = []

-- and in that of location lists
abbrev pub locations_in : AttributeValue → List ListEntry
locations_in (LocationListRef list) = ended (map location_entry list.locations.items)
locations_in _ = []

-- the same by the kind of list
abbrev pub lists_by : ListKind → AttributeValue → List ListEntry
lists_by Ranges = ranges_in
lists_by Locations = locations_in

-- those of attributes
abbrev pub lists_of_attributes : (AttributeValue → List ListEntry) → List Attribute → List ListEntry
lists_of_attributes lists xs = flat_map (λ a. lists a.value) xs

-- ---- where lists stand: one behind another, each kind in its section

-- where the next list of a kind stands behind those of attributes
abbrev pub behind_lists : (AttributeValue → List ListEntry) → ℕ → ℕ → ℕ → List Attribute → ℕ
behind_lists lists version size place [] = place
behind_lists lists version size place (a ∷ others) = behind_lists lists version size (place + list_length version size (lists a.value)) others

-- where those of both kinds do
abbrev pub behind_attributes : ℕ → ℕ → ListPlaces → List Attribute → ListPlaces
behind_attributes version size places xs = record { ranges = behind_lists ranges_in version size places.ranges xs; locations = behind_lists locations_in version size places.locations xs }

abbrev pub behind_value : ℕ → ℕ → ListPlaces → AttributeValue → ListPlaces
behind_value version size places v = record { ranges = places.ranges + list_length version size (ranges_in v); locations = places.locations + list_length version size (locations_in v) }

abbrev pub no_lists : ListPlaces
no_lists = record { ranges = 0; locations = 0 }

-- while nothing has a place, no list has one
abbrev pub nowhere : ListPlaces → List Attribute → ListPlaces
nowhere places xs = no_lists

-- Both places are within a section.
pub record AreWithin (places : ListPlaces) : Type 0 where
  pub ranges : places.ranges ≤ most_bytes
  pub locations : places.locations ≤ most_bytes
