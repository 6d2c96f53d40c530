-- Range lists as they are read one entry at a time. (DWARF 4, section 2.17.3; DWARF 5, sections 2.17.3 and 7.25.)
use Rattle.std.specs.Prelude.{◌≡◌, ℕ, Bool, true, false, Option, Some, None, option_map, Result, Ok, Err}
use Rattle.dwc_base.specs.declared.section_name.SectionName.{SectionName}
use Rattle.dwc_base.specs.declared.section_name.SectionName.TheVariants.{Info, Ranges, Rnglists}
use Rattle.dwc_base.specs.declared.faults.What.TheVariants.{RangeList}
use Rattle.dwc_base.specs.Listing.{Listing, no_items, only_fault, with_first}
use Rattle.dwc_base.specs.Sections.{Sections, Fault, reported}
use Rattle.dwc_base.specs.Units.{UnitHeader}
use Rattle.dwc_dwarf.specs.Values.{Value}
use Rattle.dwc_dwarf.specs.RawLists.{ListPlace, list_named, RawEntry, base_addressx, startx_endx, startx_length, offset_pair, base_address, start_end, start_length, pair, base_selection, range_kinds, list_fault, raw_ranges}
use Rattle.dwc_dwarf.specs.Lists.{list_source}
use Rattle.dwc_read.specs.declared.fault.ReadFault.{ReadFault}
use Rattle.dwc_read.specs.Faults.{fault_seen}
use Rattle.dwc_tabs.specs.declared.open_list.OpenList.{OpenList}
use Rattle.dwc_tabs.specs.declared.range_entry.RangeEntry.{RangeEntry}
use Rattle.dwc_tabs.specs.declared.range_entry.RangeEntry.TheVariants.{BaseAddressx, StartxEndx, StartxLength, OffsetPair, BaseAddress, StartEnd, StartLength, Pair, Base}
use Rattle.dwc_tabs.specs.OpenLists.{list_at, list_entry_at, left_of_list}

-- ---- one entry

-- an entry, as the definitions have it
abbrev pub entry_view : RangeEntry → RawEntry
entry_view (BaseAddressx i) = base_addressx i
entry_view (StartxEndx i j) = startx_endx i j
entry_view (StartxLength i n) = startx_length i n
entry_view (OffsetPair b e) = offset_pair b e
entry_view (BaseAddress a) = base_address a
entry_view (StartEnd begin end) = start_end begin end
entry_view (StartLength start n) = start_length start n
entry_view (Pair begin end) = pair begin end
entry_view (Base a) = base_selection a

-- ---- a list

-- the section of lists of pairs, and of lists of kinds
abbrev pub section_of_lists : Bool → SectionName
section_of_lists true = Ranges
section_of_lists false = Rnglists

abbrev pub place_of_list : Bool → ℕ → ListPlace
place_of_list in_pairs offset = list_at (section_of_lists in_pairs) offset

-- what is left of a range list
unfoldable pub entries_left : OpenList → Listing Fault RawEntry
entries_left l = left_of_list (list_entry_at range_kinds l.in_pairs l.relocations l.address_size) (list_fault RangeList (place_of_list l.in_pairs l.offset)) l.cursor

-- a list that is being read: where it is, and its entries that are still to come
pub record RangeEntriesView : Type 0 where
  pub place : ListPlace
  pub left : Listing Fault RawEntry

-- ---- what calls answer

-- where the range list is that a value of a unit names; an index that names none is told at the unit
abbrev pub range_list_named : Sections → UnitHeader → Value → Option (Result ListPlace Fault)
range_list_named s h v = option_map (reported RangeList Info h.offset) (list_named (list_source s h) v)

-- a refusal, which is never want of memory, is the fault that is met
abbrev pub Tells : {A : Type 0} → Option (Result A Fault) → Option Fault → Type 0
Tells read None = ⊥
Tells read (Some fault) = read ≡ Some (Err fault)

-- A call begins the range list that a value of a unit names.
abbrev pub BeginsEntries : Sections → UnitHeader → Value → Result RangeEntriesView ReadFault → Type 0
BeginsEntries s h v (Ok e) = (range_list_named s h v ≡ Some (Ok e.place)) × (e.left ≡ raw_ranges (list_source s h) e.place)
BeginsEntries s h v (Err e) = Tells (range_list_named s h v) (fault_seen e)

-- a refusal, which is never want of memory, is the fault that comes next, and it comes again
abbrev pub RefusesWith : {F A : Type 0} → Listing F A → Listing F A → Option F → Type 0
RefusesWith old new None = ⊥
RefusesWith old new (Some fault) = (old ≡ only_fault fault) × (new ≡ only_fault fault)

-- A call that takes no memory answers the next item of a listing: it gives the first, and leaves the others; at the end, and
-- at the fault, it answers the same again.
abbrev pub GivesNextRead : {X A : Type 0} → (X → A) → Listing Fault A → Listing Fault A → Result (Option X) ReadFault → Type 0
GivesNextRead view old new (Ok (Some x)) = old ≡ with_first (view x) new
GivesNextRead view old new (Ok None) = (old ≡ no_items) × (new ≡ no_items)
GivesNextRead view old new (Err e) = RefusesWith old new (fault_seen e)
