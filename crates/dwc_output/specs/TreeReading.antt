-- The trees that sections say. The same reading serves input and output. (DWARF 4 and 5, chapter 2 and section 7.5.)
use Rattle.std.specs.Prelude.{◌≡◌, ℕ, suc, ◌+◌, ◌==◌, List, [], ◌∷◌, map, Option, Some, None, option_map, Result, Ok, Err, position}
use Rattle.dwc_base.specs.declared.records.Endian.{Endian}
use Rattle.dwc_base.specs.declared.records.Address.{Address}
use Rattle.dwc_base.specs.declared.section_name.SectionName.TheVariants.{Info}
use Rattle.dwc_base.specs.declared.faults.What.{What}
use Rattle.dwc_base.specs.declared.faults.What.TheVariants.{AddressValue, LocationList, RangeList, Text}
use Rattle.dwc_base.specs.Reading.{◌>>=◌}
use Rattle.dwc_base.specs.Listing.{Listing}
use Rattle.dwc_base.specs.Sections.{Sections, Fault, unreadable, reported}
use Rattle.dwc_base.specs.Units.{UnitHeader}
use Rattle.dwc_dwarf.specs.Values as Values
use Rattle.dwc_dwarf.specs.Values.{Value}
use Rattle.dwc_dwarf.specs.Entries.{Entry}
use Rattle.dwc_dwarf.specs.ReadUnits.{Unit, units}
use Rattle.dwc_base.specs.Outputs.{OutputSection, output_sections}
use Rattle.dwc_base.specs.declared.faults.Flaw.{Flaw}
use Rattle.dwc_dwarf.specs.RawLists.{ListPlace, list_named}
use Rattle.dwc_dwarf.specs.Lists.{ListRefusal, of_place, long_range, list_source, ranges_of_value, ListedLocation, locations_of_value}
use Rattle.dwc_dwarf.specs.Texts.{TextSource, text_named}
use Rattle.dwc_dwarf.specs.Indexed.{address_named, texts_of_unit}
use Rattle.dwc_dwarf.specs.Trees.{Interval, Location, TreeValue, address, constant, flag, block, expression, text, line_table, ranges, locations, entry, nothing, TreeEntry, Tree, place_among}

-- How the range lists and the location lists are read that an entry's values name.
pub record ListReading : Type 0 where
  pub ranges_at : UnitHeader → Entry → Value → Result (List Interval) Fault
  pub locations_at : UnitHeader → Entry → Value → Result (List Location) Fault

-- A refusal of a list as a fault. Where a start plus a length is no address the list cannot be read, which is told at its place.
abbrev pub refusal_read : Fault → ListRefusal → Fault
refusal_read list (of_place fault) = fault
refusal_read list long_range = list

-- all items of a list, or its refusal
abbrev pub list_read : {A : Type 0} → Fault → List A → Option ListRefusal → Result (List A) Fault
list_read list items None = Ok items
list_read list items (Some refusal) = Err (refusal_read list refusal)

-- a list that cannot be read: told at its place, or at the entry's where it has none
abbrev pub unreadable_list : What → Entry → Option (Result ListPlace Flaw) → Fault
unreadable_list what e (Some (Ok l)) = unreadable what l.section l.offset
unreadable_list what e _ = unreadable what Info e.offset

-- The intervals of the range list that a value of an entry names.
unfoldable pub ranges_read : Sections → UnitHeader → Entry → Value → Result (List Interval) Fault
ranges_read s h e v =
    let given = ranges_of_value (list_source s h) e.offset v in
    list_read (unreadable_list RangeList e (list_named (list_source s h) v)) given.items given.fault

-- an interval of a location list with its expression, wherever that stands
abbrev pub location_said : ListedLocation → Location
location_said l = record { over = l.over; bytes = l.holds.bytes }

-- The intervals of the location list that a value of an entry names, with their expressions.
unfoldable pub locations_read : Sections → UnitHeader → Entry → Value → Result (List Location) Fault
locations_read s h e v =
    let given = locations_of_value (list_source s h) e.offset v in
    list_read (unreadable_list LocationList e (list_named (list_source s h) v)) (map location_said given.items) given.fault

-- How the lists of an output are read.
abbrev pub output_lists : Sections → ListReading
output_lists s = record { ranges_at = ranges_read s; locations_at = locations_read s }

-- What the values of a unit are read with: the sections, its number among the units, its header, its texts, and all units.
pub record ReadingUnit : Type 0 where
  pub sections : Sections
  pub number : ℕ
  pub unit : Unit
  pub texts : TextSource
  pub units : List Unit

-- what each of some things reads as, where all can be read; else the first fault
abbrev pub each_read : {A B F : Type 0} → (A → Result B F) → List A → Result (List B) F
each_read read [] = Ok []
each_read read (x ∷ xs) = read x >>= λ y. (each_read read xs >>= λ ys. Ok (y ∷ ys))

-- a value that was read, seen as another
abbrev pub read_as : {A B F : Type 0} → (A → B) → Result A F → Result B F
read_as view r = r >>= λ x. Ok (view x)

-- an entry by its unit's number and its place there; nothing where no entry begins
abbrev pub entry_or_nothing : Option (ℕ × ℕ) → TreeValue
entry_or_nothing None = nothing
entry_or_nothing (Some p) = entry p.0 p.1

-- the entry of a unit that begins at an offset in it
abbrev pub entry_in_unit : ReadingUnit → ℕ → TreeValue
entry_in_unit r n = entry_or_nothing (option_map (λ place. (r.number, place)) (position (λ e. e.offset == r.unit.header.offset + n) r.unit.entries))

-- the entry of any unit that begins at an offset
abbrev pub entry_in_section : ReadingUnit → ℕ → TreeValue
entry_in_section r n = entry_or_nothing (place_among (λ e. e.offset == n) 0 (map (λ u. u.entries) r.units))

-- a text, or nothing
abbrev pub text_or_nothing : Option (List ℕ) → TreeValue
text_or_nothing None = nothing
text_or_nothing (Some bytes) = text bytes

-- an address, or nothing
abbrev pub address_or_nothing : Option Address → TreeValue
address_or_nothing None = nothing
address_or_nothing (Some a) = address a

-- What a value of an entry says.
unfoldable pub value_said : ListReading → ReadingUnit → Entry → Value → Result TreeValue Fault
value_said lists r e (Values.address a) = Ok (address a)
value_said lists r e (Values.address_index n) = read_as address_or_nothing (reported AddressValue Info e.offset (address_named r.sections r.unit.header (Values.address_index n)))
value_said lists r e (Values.constant form bits) = Ok (constant form bits)
value_said lists r e (Values.flag b) = Ok (flag b)
value_said lists r e (Values.block bytes) = Ok (block bytes)
value_said lists r e (Values.expression bytes) = Ok (expression bytes)
value_said lists r e (Values.text bytes) = Ok (text bytes)
value_said lists r e (Values.text_reference form n) = read_as text_or_nothing (reported Text Info e.offset (text_named r.texts (Values.text_reference form n)))
value_said lists r e (Values.line_reference n) = Ok line_table
value_said lists r e (Values.range_reference n) = read_as ranges (lists.ranges_at r.unit.header e (Values.range_reference n))
value_said lists r e (Values.range_index n) = read_as ranges (lists.ranges_at r.unit.header e (Values.range_index n))
value_said lists r e (Values.location_reference n) = read_as locations (lists.locations_at r.unit.header e (Values.location_reference n))
value_said lists r e (Values.location_index n) = read_as locations (lists.locations_at r.unit.header e (Values.location_index n))
value_said lists r e (Values.unit_reference n) = Ok (entry_in_unit r n)
value_said lists r e (Values.info_reference n) = Ok (entry_in_section r n)
value_said lists r e Values.dropped = Ok nothing

-- an entry
abbrev pub entry_said : ListReading → ReadingUnit → Entry → Result TreeEntry Fault
entry_said lists r e = read_as (λ as'. record { depth = e.depth; tag = e.tag; attributes = as' }) (each_read (λ a. read_as (λ v. (a.0, v)) (value_said lists r e a.1)) e.attributes)

-- a unit of a number, among all units
unfoldable pub unit_said : ListReading → Sections → List Unit → ℕ → Unit → Result Tree Fault
unit_said lists s us number u = each_read (entry_said lists (record { sections = s; number = number; unit = u; texts = texts_of_unit s u.header; units = us })) u.entries

-- units one after another, of which the first has a number
abbrev pub units_said : ListReading → Sections → List Unit → ℕ → List Unit → Result (List Tree) Fault
units_said lists s all number [] = Ok []
units_said lists s all number (u ∷ us) = unit_said lists s all number u >>= λ t. (units_said lists s all (suc number) us >>= λ ts. Ok (t ∷ ts))

-- units that were read up to a fault, if there is one
abbrev pub listing_units_said : ListReading → Sections → List Unit → Option Fault → Result (List Tree) Fault
listing_units_said lists s us (Some fault) = Err fault
listing_units_said lists s us None = units_said lists s us 0 us

-- the same of a listing
abbrev pub listing_said : ListReading → Sections → Listing Fault Unit → Result (List Tree) Fault
listing_said lists s us = listing_units_said lists s us.items us.fault

-- The trees that `.debug_info` says, where all of it can be read.
unfoldable pub trees : ListReading → Sections → Result (List Tree) Fault
trees lists s = listing_said lists s (units s)

-- An output carries some trees: its sections, read again, say these units in this order, and no others.
abbrev pub CarriesTrees : Endian → List Tree → List OutputSection → Type 0
CarriesTrees order wanted s = trees (output_lists (output_sections order s)) (output_sections order s) ≡ Ok wanted
