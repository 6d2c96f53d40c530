-- Location lists as they are read one entry at a time. (DWARF 4, section 2.6.2; DWARF 5, sections 2.6.2, 7.28 and 7.29.)
use Rattle.std.specs.Prelude.{◌≡◌, ℕ, Bool, true, false, List, Option, Some, None, option_map, Result, Ok, Err}
use Rattle.dwc_base.specs.declared.section_name.SectionName.{SectionName}
use Rattle.dwc_base.specs.declared.section_name.SectionName.TheVariants.{Info, Loc, Loclists}
use Rattle.dwc_base.specs.declared.faults.What.TheVariants.{LocationList}
use Rattle.dwc_base.specs.Reading.{Unread, Read, ◌>>=◌}
use Rattle.dwc_base.specs.Listing.{Listing}
use Rattle.dwc_base.specs.Sections.{Sections, Relocation, Fault, reported}
use Rattle.dwc_base.specs.Units.{UnitHeader}
use Rattle.dwc_dwarf.specs.Values.{Value}
use Rattle.dwc_dwarf.specs.RawLists as Definitions
use Rattle.dwc_dwarf.specs.RawLists.{ListPlace, list_named, RawEntry, RawLocation, default_location, location_kinds, location_behind, list_fault, raw_locations}
use Rattle.dwc_dwarf.specs.Lists.{list_source}
use Rattle.dwc_read.specs.declared.fault.ReadFault.{ReadFault}
use Rattle.dwc_read.specs.Faults.{fault_seen}
use Rattle.dwc_tabs.specs.declared.open_list.OpenList.{OpenList}
use Rattle.dwc_tabs.specs.declared.location_entry.LocationKind.{LocationKind}
use Rattle.dwc_tabs.specs.declared.location_entry.LocationKind.TheVariants as kind
use Rattle.dwc_tabs.specs.declared.location_entry.LocationRange.{LocationRange}
use Rattle.dwc_tabs.specs.declared.location_entry.LocationRange.TheVariants as range
use Rattle.dwc_tabs.specs.declared.location_entry.PlacedExpression.{PlacedExpression}
use Rattle.dwc_tabs.specs.declared.location_entry.LocationEntry.{LocationEntry}
use Rattle.dwc_tabs.specs.OpenLists.{kind_view, list_at, list_entry_at, left_of_list}
use Rattle.dwc_tabs.specs.RangeLists.{entry_view, Tells}

-- ---- one entry

-- the kind of an entry
abbrev pub location_kind_view : LocationKind → Definitions.EntryKind
location_kind_view kind.DefaultLocation = Definitions.a_default_location
location_kind_view (kind.Listed k) = kind_view k

-- what an entry says of addresses
abbrev pub range_view : LocationRange → RawEntry
range_view range.DefaultLocation = default_location
range_view (range.Listed e) = entry_view e

-- an expression with the place of its first byte
abbrev pub placed_view : PlacedExpression → Definitions.PlacedExpression
placed_view x = record { section = x.section; place = x.place; bytes = x.bytes.now }

-- an entry, as the definitions have it
abbrev pub location_view : LocationEntry → RawLocation
location_view e = record { says = range_view e.says; holds = option_map placed_view e.holds }

-- ---- a list

-- the section of lists of pairs, and of lists of kinds
abbrev pub section_of_locations : Bool → SectionName
section_of_locations true = Loc
section_of_locations false = Loclists

abbrev pub place_of_locations : Bool → ℕ → ListPlace
place_of_locations in_pairs offset = list_at (section_of_locations in_pairs) offset

-- an entry of a list, of pairs up to version 4 or of kinds from version 5 on, with its expression; none at the end
unfoldable pub location_entry_at : Bool → List Relocation → ℕ → Unread → Read (Option RawLocation)
location_entry_at in_pairs relocations size u = do
  entry ← list_entry_at location_kinds in_pairs relocations size u
  elim entry.0 [ None ↦ Ok (None, entry.1) | Some e ↦ location_behind (section_of_locations in_pairs) e entry.1 ]

-- what is left of a location list
unfoldable pub locations_left : OpenList → Listing Fault RawLocation
locations_left l = left_of_list (location_entry_at l.in_pairs l.relocations l.address_size) (list_fault LocationList (place_of_locations l.in_pairs l.offset)) l.cursor

-- a list that is being read: where it is, and its entries that are still to come
pub record LocationEntriesView : Type 0 where
  pub place : ListPlace
  pub left : Listing Fault RawLocation

-- ---- what calls answer

-- where the location list is that a value of a unit names; an index that names none is told at the unit
abbrev pub location_list_named : Sections → UnitHeader → Value → Option (Result ListPlace Fault)
location_list_named s h v = option_map (reported LocationList Info h.offset) (list_named (list_source s h) v)

-- A call begins the location list that a value of a unit names.
abbrev pub BeginsLocationEntries : Sections → UnitHeader → Value → Result LocationEntriesView ReadFault → Type 0
BeginsLocationEntries s h v (Ok e) = (location_list_named s h v ≡ Some (Ok e.place)) × (e.left ≡ raw_locations (list_source s h) e.place)
BeginsLocationEntries s h v (Err e) = Tells (location_list_named s h v) (fault_seen e)
