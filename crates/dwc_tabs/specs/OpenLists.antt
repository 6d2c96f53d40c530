-- A list that is being read, of ranges or of locations: what is unread of it, its entries, and where it is by an index. (DWARF 4,
-- sections 2.6.2 and 2.17.3; DWARF 5, sections 7.25, 7.28 and 7.29.)
use Rattle.std.specs.Prelude.{ℕ, ◌+◌, ◌*◌, List, [], length, drop, Bool, true, false, nat_le, if◌then◌else◌, Option, Result, Ok}
use Rattle.dwc_base.specs.declared.records.Endian.{Endian}
use Rattle.dwc_base.specs.declared.section_name.SectionName.{SectionName}
use Rattle.dwc_base.specs.declared.faults.Flaw.{Flaw}
use Rattle.dwc_base.specs.Reading.{Unread, Read, ◌>>=◌, number_at}
use Rattle.dwc_base.specs.Listing.{Listing, walk}
use Rattle.dwc_base.specs.Sections.{Sections, Relocation, Fault, fault_of}
use Rattle.dwc_base.specs.Units.{UnitHeader}
use Rattle.dwc_dwarf.specs.RawLists.{ListPlace, RawEntry, pair_at, kind_and_entry_at, next_item, unread_length, end_of_list, a_base_addressx, a_startx_endx, a_startx_length, an_offset_pair, a_base_address, a_start_end, a_start_length}
use Rattle.dwc_dwarf.specs.RawLists as Definitions
use Rattle.dwc_tabs.specs.declared.entry_kind.EntryKind.{EntryKind}
use Rattle.dwc_tabs.specs.declared.entry_kind.EntryKind.TheVariants.{EndOfList, BaseAddressx, StartxEndx, StartxLength, OffsetPair, BaseAddress, StartEnd, StartLength}
use Rattle.dwc_tabs.specs.declared.list_start.ListStart.{ListStart}
use Rattle.dwc_tabs.specs.declared.open_list.OpenList.{OpenList}

-- what is unread of some bytes from an offset on; past their end it does not matter where that is
abbrev pub unread_at : Endian → List ℕ → ℕ → Unread
unread_at order bytes offset = if nat_le (length bytes) offset then record { order = order; place = 0; left = [] } else record { order = order; place = offset; left = drop offset bytes }

-- the list of a unit that begins at an offset of a section
abbrev pub opened_at : Sections → UnitHeader → SectionName → Bool → ℕ → OpenList
opened_at s h section in_pairs offset = record {
  in_pairs = in_pairs;
  relocations = s.relocations section;
  address_size = h.address_size;
  offset = offset;
  cursor = unread_at s.order (s.bytes section) offset;
}

-- a kind of entries, as the definitions have it
abbrev pub kind_view : EntryKind → Definitions.EntryKind
kind_view EndOfList = end_of_list
kind_view BaseAddressx = a_base_addressx
kind_view StartxEndx = a_startx_endx
kind_view StartxLength = a_startx_length
kind_view OffsetPair = an_offset_pair
kind_view BaseAddress = a_base_address
kind_view StartEnd = a_start_end
kind_view StartLength = a_start_length

-- what an entry says of addresses, in a list of pairs up to version 4 or of kinds from version 5 on; none at the end
unfoldable pub list_entry_at : List (ℕ × Definitions.EntryKind) → Bool → List Relocation → ℕ → Unread → Read (Option RawEntry)
list_entry_at kinds true relocations size u = pair_at relocations size u
list_entry_at kinds false relocations size u = kind_and_entry_at kinds relocations size u

-- what is left of a list, by the reader of its entries
unfoldable pub left_of_list : {A : Type 0} → (Unread → Read (Option A)) → (Flaw → Fault) → Unread → Listing Fault A
left_of_list reader told u = walk unread_length (next_item reader told) u

-- what cannot be read in a list is told at its first byte
abbrev pub told_at_start : ListStart → Flaw → Fault
told_at_start start flaw = fault_of start.what start.section start.offset flaw

-- the number at an index of 4 bytes each behind a base, which says how far behind the base a list is (DWARF 5, section 7.28)
unfoldable pub distance_at : Endian → List ℕ → ℕ → ℕ → Result ℕ Flaw
distance_at order bytes base index = number_at 4 (record { order = order; place = base + 4 * index; left = drop (base + 4 * index) bytes }) >>= λ n. Ok n.0

-- the list at an offset of a section
abbrev pub list_at : SectionName → ℕ → ListPlace
list_at section offset = record { section = section; offset = offset }
