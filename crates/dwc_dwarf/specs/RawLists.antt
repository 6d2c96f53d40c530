-- Range lists and location lists as they stand: where they are, and their raw entries. (DWARF 4, sections 2.17.3 and 2.6.2;
-- DWARF 5, sections 7.25, 7.28 and 7.29.)
use Rattle.std.specs.Prelude.{ℕ, ◌+◌, ◌-◌, ◌*◌, ◌^◌, ◌==◌, List, [], ◌∷◌, length, Bool, true, false, nat_lt, ◌&&◌, if◌then◌else◌, Option, Some, None, Result, Ok, Err}
use Rattle.dwc_base.specs.declared.records.Address.{Address}
use Rattle.dwc_base.specs.declared.records.Address.TheVariants.{Constant, Symbol}
use Rattle.dwc_base.specs.declared.section_name.SectionName.{SectionName}
use Rattle.dwc_base.specs.declared.section_name.SectionName.TheVariants.{Loc, Loclists, Ranges, Rnglists}
use Rattle.dwc_base.specs.declared.faults.What.{What}
use Rattle.dwc_base.specs.declared.faults.What.TheVariants.{LocationList, RangeList}
use Rattle.dwc_base.specs.declared.faults.Flaw.{Flaw}
use Rattle.dwc_base.specs.declared.faults.Flaw.TheVariants.{Malformed}
use Rattle.dwc_base.specs.Reading.{Unread, Read, ◌>>=◌, bytes_at, number_at, uleb_at, seen_as, coded}
use Rattle.dwc_base.specs.Listing.{Listing, Next, at_end, broken, item, walk}
use Rattle.dwc_base.specs.Sections.{Sections, Relocation, section_from, Fault, fault_of, address_at}
use Rattle.dwc_dwarf.specs.Values.{Value, range_reference, range_index, location_reference, location_index, Size, fixed, variable, sized_number_at}
use Rattle.dwc_base.specs.declared.constants.TheConstants.{DW_LLE_base_address, DW_LLE_base_addressx, DW_LLE_default_location, DW_LLE_end_of_list, DW_LLE_offset_pair, DW_LLE_start_end, DW_LLE_start_length, DW_LLE_startx_endx, DW_LLE_startx_length, DW_RLE_base_address, DW_RLE_base_addressx, DW_RLE_end_of_list, DW_RLE_offset_pair, DW_RLE_start_end, DW_RLE_start_length, DW_RLE_startx_endx, DW_RLE_startx_length}

-- What the lists of a unit are read by: its sections, its version and the size of its addresses; where its range lists
-- and its location lists by an index begin; its addresses by an index; and the base that a list begins with.
pub record ListSource : Type 0 where
  pub sections : Sections
  pub version : ℕ
  pub address_size : ℕ
  pub ranges_base : ℕ
  pub locations_base : ℕ
  pub indexed : ℕ → Result Address Flaw
  pub first_base : Address

-- ---- where a list is

-- a list's section, and the offset of its first byte
pub record ListPlace : Type 0 where
  pub section : SectionName
  pub offset : ℕ

-- the list that stands at an index behind a base: the base plus the number there
abbrev pub place_indexed : Sections → SectionName → ℕ → ℕ → Result ListPlace Flaw
place_indexed s section base index = number_at 4 (section_from s section (base + 4 * index)) >>= λ n. Ok (record { section = section; offset = base + n.0 })

-- The list that a value names; none for a value that names none. Up to version 4 range lists and location lists stand in
-- sections of their own.
unfoldable pub list_named : ListSource → Value → Option (Result ListPlace Flaw)
list_named s (range_reference n) = Some (Ok (record { section = if nat_lt s.version 5 then Ranges else Rnglists; offset = n }))
list_named s (range_index i) = Some (place_indexed s.sections Rnglists s.ranges_base i)
list_named s (location_reference n) = Some (Ok (record { section = if nat_lt s.version 5 then Loc else Loclists; offset = n }))
list_named s (location_index i) = Some (place_indexed s.sections Loclists s.locations_base i)
list_named s _ = None

-- whether a value names a range list
abbrev pub is_range_list : Value → Bool
is_range_list (range_reference n) = true
is_range_list (range_index i) = true
is_range_list _ = false

-- whether a value names a location list
abbrev pub is_location_list : Value → Bool
is_location_list (location_reference n) = true
is_location_list (location_index i) = true
is_location_list _ = false

-- ---- raw entries

-- An entry with its operands as they stand, an index as a number. The last two are those of the lists up to version 4: a
-- pair of addresses, and the selection of a base.
pub data RawEntry : Type 0 where
  base_addressx : ℕ → RawEntry
  startx_endx : ℕ → ℕ → RawEntry
  startx_length : ℕ → ℕ → RawEntry
  offset_pair : ℕ → ℕ → RawEntry
  default_location : RawEntry
  base_address : Address → RawEntry
  start_end : Address → Address → RawEntry
  start_length : Address → ℕ → RawEntry
  pair : Address → Address → RawEntry
  base_selection : Address → RawEntry

-- whether an address is a number
abbrev pub is_number : ℕ → Address → Bool
is_number n (Constant a) = a == n
is_number n (Symbol f addend) = false

-- two addresses of a list up to version 4: two zeros end it, and the greatest address selects the other as a base
abbrev pub entry_of_pair : ℕ → Address → Address → Option RawEntry
entry_of_pair size begin end =
    if is_number 0 begin && is_number 0 end then None
    else (if is_number (2 ^ (8 * size) - 1) begin then Some (base_selection end) else Some (pair begin end))

-- an entry of a list up to version 4; none at the end
unfoldable pub pair_at : List Relocation → ℕ → Unread → Read (Option RawEntry)
pair_at relocations size u = do
  begin ← address_at relocations size u
  end ← address_at relocations size begin.1
  Ok (entry_of_pair size begin.0 end.0, end.1)

-- the kinds of entries from version 5 on
pub data EntryKind : Type 0 where
  end_of_list : EntryKind
  a_base_addressx : EntryKind
  a_startx_endx : EntryKind
  a_startx_length : EntryKind
  an_offset_pair : EntryKind
  a_default_location : EntryKind
  a_base_address : EntryKind
  a_start_end : EntryKind
  a_start_length : EntryKind

-- the kinds by their codes, in range lists and in location lists
abbrev pub range_kinds : List (ℕ × EntryKind)
range_kinds =
    (DW_RLE_end_of_list, end_of_list) ∷ (DW_RLE_base_addressx, a_base_addressx) ∷ (DW_RLE_startx_endx, a_startx_endx) ∷ (DW_RLE_startx_length, a_startx_length)
    ∷ (DW_RLE_offset_pair, an_offset_pair) ∷ (DW_RLE_base_address, a_base_address) ∷ (DW_RLE_start_end, a_start_end) ∷ (DW_RLE_start_length, a_start_length) ∷ []

abbrev pub location_kinds : List (ℕ × EntryKind)
location_kinds =
    (DW_LLE_end_of_list, end_of_list) ∷ (DW_LLE_base_addressx, a_base_addressx) ∷ (DW_LLE_startx_endx, a_startx_endx) ∷ (DW_LLE_startx_length, a_startx_length)
    ∷ (DW_LLE_offset_pair, an_offset_pair) ∷ (DW_LLE_default_location, a_default_location) ∷ (DW_LLE_base_address, a_base_address) ∷ (DW_LLE_start_end, a_start_end) ∷ (DW_LLE_start_length, a_start_length) ∷ []

-- two operands, one behind the other, as an entry
abbrev pub operands_at : {A B : Type 0} → (A → B → RawEntry) → (Unread → Read A) → (Unread → Read B) → Unread → Read (Option RawEntry)
operands_at entry first second u = first u >>= λ a. second a.1 >>= λ b. Ok (Some (entry a.0 b.0), b.1)

-- the operands of an entry of a kind; none at the end
unfoldable pub entry_of_kind_at : List Relocation → ℕ → EntryKind → Unread → Read (Option RawEntry)
entry_of_kind_at relocations size end_of_list u = Ok (None, u)
entry_of_kind_at relocations size a_base_addressx u = seen_as (λ i. Some (base_addressx i)) (uleb_at u)
entry_of_kind_at relocations size a_startx_endx u = operands_at startx_endx uleb_at uleb_at u
entry_of_kind_at relocations size a_startx_length u = operands_at startx_length uleb_at uleb_at u
entry_of_kind_at relocations size an_offset_pair u = operands_at offset_pair uleb_at uleb_at u
entry_of_kind_at relocations size a_default_location u = Ok (Some default_location, u)
entry_of_kind_at relocations size a_base_address u = seen_as (λ a. Some (base_address a)) (address_at relocations size u)
entry_of_kind_at relocations size a_start_end u = operands_at start_end (address_at relocations size) (address_at relocations size) u
entry_of_kind_at relocations size a_start_length u = operands_at start_length (address_at relocations size) uleb_at u

-- an entry from version 5 on, by the kinds of its list
unfoldable pub kind_and_entry_at : List (ℕ × EntryKind) → List Relocation → ℕ → Unread → Read (Option RawEntry)
kind_and_entry_at kinds relocations size u = do
  code ← number_at 1 u
  elim (coded kinds code.0) [ None ↦ Err Malformed | Some kind ↦ entry_of_kind_at relocations size kind code.1 ]

-- an entry of a list of a section
unfoldable pub raw_entry_at : ListSource → SectionName → Unread → Read (Option RawEntry)
raw_entry_at s Ranges u = pair_at (s.sections.relocations Ranges) s.address_size u
raw_entry_at s Loc u = pair_at (s.sections.relocations Loc) s.address_size u
raw_entry_at s Rnglists u = kind_and_entry_at range_kinds (s.sections.relocations Rnglists) s.address_size u
raw_entry_at s Loclists u = kind_and_entry_at location_kinds (s.sections.relocations Loclists) s.address_size u
raw_entry_at s _ u = Err Malformed

-- ---- the entries of a range list

-- what cannot be read in a list is told at the list's first byte
abbrev pub list_fault : What → ListPlace → Flaw → Fault
list_fault what l flaw = fault_of what l.section l.offset flaw

-- where the walk of a list is, before its end
abbrev pub next_item : {A : Type 0} → (Unread → Read (Option A)) → (Flaw → Fault) → Unread → Next Unread Fault A
next_item reader told u = elim (reader u) [
  | Err flaw ↦ broken (told flaw)
  | Ok read ↦ elim read.0 [ None ↦ at_end | Some x ↦ item x read.1 ]
]

-- the bytes that are left
abbrev pub unread_length : Unread → ℕ
unread_length u = length u.left

-- The raw entries of a range list, up to its end.
unfoldable pub raw_ranges : ListSource → ListPlace → Listing Fault RawEntry
raw_ranges s l = walk unread_length (next_item (raw_entry_at s l.section) (list_fault RangeList l)) (section_from s.sections l.section l.offset)

-- ---- the entries of a location list

-- an expression, with the section and the offset of its first byte
pub record PlacedExpression : Type 0 where
  pub section : SectionName
  pub place : ℕ
  pub bytes : List ℕ

-- an entry of a location list; the selection of a base has no expression
pub record RawLocation : Type 0 where
  pub says : RawEntry
  pub holds : Option PlacedExpression

-- whether an entry selects a base
abbrev pub selects_base : RawEntry → Bool
selects_base (base_addressx i) = true
selects_base (base_address a) = true
selects_base (base_selection a) = true
selects_base _ = false

-- how long the length of an expression is: two bytes up to version 4
abbrev pub length_size : SectionName → Size
length_size Loc = fixed 2
length_size _ = variable

-- a length, and an expression of it, in a section
unfoldable pub placed_expression_at : SectionName → Unread → Read PlacedExpression
placed_expression_at section u = do
  count ← sized_number_at (length_size section) u
  bytes ← bytes_at count.0 count.1
  Ok (record { section = section; place = count.1.place; bytes = bytes.0 }, bytes.1)

-- an entry behind what it says of addresses: its expression
unfoldable pub location_behind : SectionName → RawEntry → Unread → Read (Option RawLocation)
location_behind section e u = elim (selects_base e) [
  | true ↦ Ok (Some (record { says = e; holds = None }), u)
  | false ↦ (placed_expression_at section u >>= λ x. Ok (Some (record { says = e; holds = Some x.0 }), x.1))
]

-- an entry of a location list; none at the end
unfoldable pub raw_location_at : ListSource → SectionName → Unread → Read (Option RawLocation)
raw_location_at s section u = do
  entry ← raw_entry_at s section u
  elim entry.0 [ None ↦ Ok (None, entry.1) | Some e ↦ location_behind section e entry.1 ]

-- The raw entries of a location list, up to its end.
unfoldable pub raw_locations : ListSource → ListPlace → Listing Fault RawLocation
raw_locations s l = walk unread_length (next_item (raw_location_at s l.section) (list_fault LocationList l)) (section_from s.sections l.section l.offset)
