-- The bytes of a unit of version 4 or 5, from its entries in file order, and what its readers answer on them. The laws are in
-- `ReadValues` (values, form by form) and `ReadEntries` (header and entries).
use Rattle.std.specs.Prelude.{◌≡◌, ℕ, suc, ◌+◌, ◌-◌, ◌^◌, ◌<◌, ◌≤◌, ℤ, pos, List, [], ◌∷◌, ◌++◌, map, length, replicate, Bool, true, nat_lt, if◌then◌else◌, Some, None}
use Rattle.std.specs.List.{All, flat_map}
use Rattle.std.specs.Int.{w64, cast_unsigned}
use Rattle.dwc_base.specs.declared.records.Endian.{Endian}
use Rattle.dwc_base.specs.declared.records.Address.{Address}
use Rattle.dwc_base.specs.declared.section_name.SectionName.{SectionName}
use Rattle.dwc_base.specs.declared.constants.TheConstants.{DW_UT_compile}
use Rattle.dwc_base.specs.Reading.{is_64_bit}
use Rattle.dwc_base.specs.Abbreviations.{AttributeSpec, Declaration, declaration_of}
use Rattle.dwc_base.specs.Units.{UnitHeader}
use Rattle.dwc_dwarf.specs.Values.{Value, address, constant, flag, expression, text_reference, unit_reference, info_reference, section_offset, block_value}
use Rattle.dwc_dwarf.specs.Entries.{Entry}
use Rattle.dwc_base.specs.Spelling.{unread_at}
use Rattle.dwc_output.specs.Versions.{is_old}
use Rattle.dwc_base.specs.NumberBytes.{number_bytes, uleb_bytes, sleb_bytes}
use Rattle.dwc_section.specs.Spelled.{block_bytes, sized_bytes, at_places}
use Rattle.dwc_unit.specs.SpelledTables.{flag_of}
use Rattle.dwc_section.specs.SpelledAddresses.{AddressField, address_bytes, FitsAddress}

-- ---- values: a further form is one more case in each of these

-- a value as a writer gives it, by its form; references and offsets are numbers, an offset in a section with its name
pub data Written : Type 0 where
  as_addr : Address → Written
  as_data1 : ℕ → Written
  as_data2 : ℕ → Written
  as_data4 : ℕ → Written
  as_data8 : ℕ → Written
  as_udata : ℕ → Written
  as_sdata : ℤ → Written
  as_flag : Bool → Written
  as_block : List ℕ → Written
  as_exprloc : List ℕ → Written
  as_strp : ℕ → Written
  as_ref4 : ℕ → Written
  as_ref_addr : ℕ → Written
  as_sec_offset : SectionName → ℕ → Written

abbrev pub form_number : Written → ℕ
form_number (as_addr a) = 0x01
form_number (as_data1 n) = 0x0B
form_number (as_data2 n) = 0x05
form_number (as_data4 n) = 0x06
form_number (as_data8 n) = 0x07
form_number (as_udata n) = 0x0F
form_number (as_sdata z) = 0x0D
form_number (as_flag b) = 0x0C
form_number (as_block bytes) = 0x09
form_number (as_exprloc bytes) = 0x18
form_number (as_strp n) = 0x0E
form_number (as_ref4 n) = 0x13
form_number (as_ref_addr n) = 0x10
form_number (as_sec_offset name n) = 0x17

abbrev pub written_bytes : Endian → ℕ → Written → List ℕ
written_bytes order size (as_addr a) = address_bytes order size a
written_bytes order size (as_data1 n) = number_bytes order 1 n
written_bytes order size (as_data2 n) = number_bytes order 2 n
written_bytes order size (as_data4 n) = number_bytes order 4 n
written_bytes order size (as_data8 n) = number_bytes order 8 n
written_bytes order size (as_udata n) = uleb_bytes n
written_bytes order size (as_sdata z) = sleb_bytes z
written_bytes order size (as_flag b) = flag_of b ∷ []
written_bytes order size (as_block bytes) = block_bytes bytes
written_bytes order size (as_exprloc bytes) = block_bytes bytes
written_bytes order size (as_strp n) = number_bytes order 4 n
written_bytes order size (as_ref4 n) = number_bytes order 4 n
written_bytes order size (as_ref_addr n) = number_bytes order 4 n
written_bytes order size (as_sec_offset name n) = number_bytes order 4 n

-- a value fits its form
abbrev pub FitsWritten : ℕ → Written → Type 0
FitsWritten size (as_addr a) = FitsAddress size a
FitsWritten size (as_data1 n) = n < 256 ^ 1
FitsWritten size (as_data2 n) = n < 256 ^ 2
FitsWritten size (as_data4 n) = n < 256 ^ 4
FitsWritten size (as_data8 n) = n < 256 ^ 8
FitsWritten size (as_udata n) = n < 2 ^ 64
FitsWritten size (as_sdata z) = is_64_bit z ≡ true
FitsWritten size (as_flag b) = Unit {0}
FitsWritten size (as_block bytes) = length bytes < 2 ^ 64
FitsWritten size (as_exprloc bytes) = length bytes < 2 ^ 64
FitsWritten size (as_strp n) = n < 256 ^ 4
FitsWritten size (as_ref4 n) = n < 256 ^ 4
FitsWritten size (as_ref_addr n) = n < 256 ^ 4
FitsWritten size (as_sec_offset section n) = n < 256 ^ 4

-- the value that a reader finds under a name
abbrev pub written_value : ℕ → Written → Value
written_value name (as_addr a) = address a
written_value name (as_data1 n) = constant 0x0B n
written_value name (as_data2 n) = constant 0x05 n
written_value name (as_data4 n) = constant 0x06 n
written_value name (as_data8 n) = constant 0x07 n
written_value name (as_udata n) = constant 0x0F n
written_value name (as_sdata z) = constant 0x0D (cast_unsigned w64 z)
written_value name (as_flag b) = flag b
written_value name (as_block bytes) = block_value name bytes
written_value name (as_exprloc bytes) = expression bytes
written_value name (as_strp n) = text_reference 0x0E n
written_value name (as_ref4 n) = unit_reference n
written_value name (as_ref_addr n) = info_reference n
written_value name (as_sec_offset section n) = section_offset name n

-- the fields of addresses in a value at a place
abbrev pub value_fields : ℕ → ℕ → Written → List AddressField
value_fields size place (as_addr a) = record { offset = place; size = size; address = a } ∷ []
value_fields size place _ = []

-- ---- entries

pub record WrittenAttribute : Type 0 where
  pub name : ℕ
  pub value : Written

abbrev pub spec_of : WrittenAttribute → AttributeSpec
spec_of a = record { name = a.name; form = form_number a.value; implicit = pos 0 }

abbrev pub attribute_bytes : Endian → ℕ → WrittenAttribute → List ℕ
attribute_bytes order size a = written_bytes order size a.value

-- an entry: its depth below the root, the code of its declaration, its tag and its attributes
pub record WrittenEntry : Type 0 where
  pub depth : ℕ
  pub code : ℕ
  pub tag : ℕ
  pub attributes : List WrittenAttribute

-- an entry with what follows from the next one: whether it has children, and how many lists of siblings end behind it
pub record Shaped : Type 0 where
  pub entry : WrittenEntry
  pub has_children : Bool
  pub ends : ℕ

-- the depth of the first entry; behind the last one all lists end
abbrev pub next_depth : List WrittenEntry → ℕ
next_depth [] = 0
next_depth (e ∷ es) = e.depth

abbrev pub shaped : List WrittenEntry → List Shaped
shaped [] = []
shaped (e ∷ es) = record { entry = e; has_children = nat_lt e.depth (next_depth es); ends = e.depth - next_depth es } ∷ shaped es

-- the declaration of an entry
abbrev pub declaration_for : Shaped → Declaration
declaration_for x = record { code = x.entry.code; tag = x.entry.tag; has_children = x.has_children; attributes = map spec_of x.entry.attributes }

-- its code, its values, and a zero for each list that ends
abbrev pub entry_bytes : Endian → ℕ → Shaped → List ℕ
entry_bytes order size x = uleb_bytes x.entry.code ++ (flat_map (attribute_bytes order size) x.entry.attributes ++ replicate x.ends 0)

abbrev pub entry_fields : Endian → ℕ → ℕ → Shaped → List AddressField
entry_fields order size place x =
    at_places (attribute_bytes order size) (λ p a. value_fields size p a.value) (place + length (uleb_bytes x.entry.code)) x.entry.attributes

-- the entry that is read at a place
abbrev pub read_entry : ℕ → Shaped → Entry
read_entry place x = record { offset = place; depth = x.entry.depth; tag = x.entry.tag; attributes = map (λ a. (a.name, written_value a.name a.value)) x.entry.attributes }

abbrev pub entries_bytes : Endian → ℕ → List WrittenEntry → List ℕ
entries_bytes order size es = flat_map (entry_bytes order size) (shaped es)

abbrev pub entries_fields : Endian → ℕ → ℕ → List WrittenEntry → List AddressField
entries_fields order size place es = at_places (entry_bytes order size) (entry_fields order size) place (shaped es)

abbrev pub read_entries : Endian → ℕ → ℕ → List WrittenEntry → List Entry
read_entries order size place es = at_places (entry_bytes order size) (λ p x. read_entry p x ∷ []) place (shaped es)

-- Depths below the root rise by one at most.
abbrev pub AreBelow : ℕ → List WrittenEntry → Type 0
AreBelow depth [] = Unit {0}
AreBelow depth (e ∷ es) = (0 < e.depth) × (e.depth ≤ suc depth) × AreBelow e.depth es

-- the entries of a tree: the root, and the others below it
abbrev pub IsTree : List WrittenEntry → Type 0
IsTree [] = Unit {0}
IsTree (e ∷ es) = (e.depth ≡ 0) × AreBelow 0 es

-- An entry's code is the one of its declaration in the table, and its values fit.
pub record FitsEntry (table : List Declaration) (size : ℕ) (x : Shaped) : Type 0 where
  pub some : 0 < x.entry.code
  pub code : x.entry.code < 2 ^ 64
  pub declared : declaration_of x.entry.code table ≡ Some (declaration_for x)
  pub values : All (λ a. FitsWritten size a.value) x.entry.attributes

-- ---- the unit

-- what stands behind the version: up to version 4 the offset of the table and the address size, from version 5 on the type of a compile unit, the
-- address size and the offset (DWARF 4 and 5, section 7.5.1.1); then the entries
abbrev pub behind_version : ℕ → Endian → ℕ → ℕ → List WrittenEntry → List ℕ
behind_version version order size table_offset es =
    if is_old version
    then number_bytes order 4 table_offset ++ ((size ∷ []) ++ entries_bytes order size es)
    else (DW_UT_compile ∷ size ∷ []) ++ (number_bytes order 4 table_offset ++ entries_bytes order size es)

abbrev pub unit_body : ℕ → Endian → ℕ → ℕ → List WrittenEntry → List ℕ
unit_body version order size table_offset es = number_bytes order 2 version ++ behind_version version order size table_offset es

abbrev pub unit_bytes : ℕ → Endian → ℕ → ℕ → List WrittenEntry → List ℕ
unit_bytes version order size table_offset es = sized_bytes order (unit_body version order size table_offset es)

-- how many bytes stand before the entries
abbrev pub header_length : ℕ → ℕ
header_length version = if is_old version then 11 else 12

-- where the offset of the table stands in a unit
abbrev pub table_place : ℕ → ℕ
table_place version = if is_old version then 6 else 8

-- the header that is read at a place
abbrev pub read_header : ℕ → Endian → ℕ → ℕ → ℕ → List WrittenEntry → UnitHeader
read_header version order size table_offset place es = record {
  offset = place;
  end = place + length (unit_bytes version order size table_offset es);
  version = version;
  address_size = size;
  unit_type = DW_UT_compile;
  abbreviations = table_offset;
  dwo_id = None;
  content = unread_at order (place + header_length version) (entries_bytes order size es);
}
