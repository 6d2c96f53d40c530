-- Forms and the values of attributes. (DWARF 4, section 7.5.4; DWARF 5, sections 7.5.4 to 7.5.6.)
use Rattle.std.specs.Prelude.{ℕ, zero, suc, ◌==◌, List, [], ◌∷◌, length, Bool, true, false, nat_lt, not, ◌&&◌, ◌||◌, if◌then◌else◌, Option, Some, None, Ok, Err}
use Rattle.std.specs.List.{list_any}
use Rattle.std.specs.Int.{w64, cast_unsigned}
use Rattle.dwc_base.specs.declared.records.Address.{Address}
use Rattle.dwc_base.specs.declared.records.Encoding.{Encoding}
use Rattle.dwc_base.specs.declared.section_name.SectionName.TheVariants.{Info}
use Rattle.dwc_base.specs.declared.faults.Kind.TheVariants.{Supplementary}
use Rattle.dwc_base.specs.declared.faults.Flaw.TheVariants.{Malformed, Refused}
use Rattle.dwc_base.specs.Reading.{Unread, Read, ◌>>=◌, forbid, bytes_at, number_at, uleb_at, sleb_at, text_at, seen_as, coded}
use Rattle.dwc_base.specs.Abbreviations.{AttributeSpec}
use Rattle.dwc_base.specs.Sections.{Sections, Relocation, address_at}
use Rattle.dwc_base.specs.Units.{UnitHeader}
use Rattle.dwc_base.specs.declared.constants.TheConstants.{DW_AT_allocated, DW_AT_associated, DW_AT_bit_size, DW_AT_bit_stride, DW_AT_byte_size, DW_AT_byte_stride, DW_AT_count, DW_AT_data_location, DW_AT_data_member_location, DW_AT_frame_base, DW_AT_location, DW_AT_lower_bound, DW_AT_ranges, DW_AT_return_addr, DW_AT_segment, DW_AT_start_scope, DW_AT_static_link, DW_AT_stmt_list, DW_AT_string_length, DW_AT_upper_bound, DW_AT_use_location, DW_AT_vtable_elem_location, DW_FORM_addr, DW_FORM_addrx, DW_FORM_addrx1, DW_FORM_addrx2, DW_FORM_addrx3, DW_FORM_addrx4, DW_FORM_block, DW_FORM_block1, DW_FORM_block2, DW_FORM_block4, DW_FORM_data1, DW_FORM_data16, DW_FORM_data2, DW_FORM_data4, DW_FORM_data8, DW_FORM_exprloc, DW_FORM_flag, DW_FORM_flag_present, DW_FORM_implicit_const, DW_FORM_indirect, DW_FORM_line_strp, DW_FORM_loclistx, DW_FORM_ref1, DW_FORM_ref2, DW_FORM_ref4, DW_FORM_ref8, DW_FORM_ref_addr, DW_FORM_ref_sig8, DW_FORM_ref_sup4, DW_FORM_ref_sup8, DW_FORM_ref_udata, DW_FORM_rnglistx, DW_FORM_sdata, DW_FORM_sec_offset, DW_FORM_string, DW_FORM_strp, DW_FORM_strp_sup, DW_FORM_strx, DW_FORM_strx1, DW_FORM_strx2, DW_FORM_strx3, DW_FORM_strx4, DW_FORM_udata}

-- The value of an attribute. References and indexes are numbers as they stand; a constant and a text
-- elsewhere keep their form, and a signed constant is its 64 bits.
pub data Value : Type 0 where
  address : Address → Value
  address_index : ℕ → Value
  constant : ℕ → ℕ → Value
  flag : Bool → Value
  block : List ℕ → Value
  expression : List ℕ → Value
  text : List ℕ → Value
  text_reference : ℕ → ℕ → Value
  line_reference : ℕ → Value
  range_reference : ℕ → Value
  range_index : ℕ → Value
  location_reference : ℕ → Value
  location_index : ℕ → Value
  unit_reference : ℕ → Value
  info_reference : ℕ → Value
  dropped : Value

-- how long a number in a value is: so many bytes, or of variable length
pub data Size : Type 0 where
  fixed : ℕ → Size
  variable : Size

-- What a form spells.
pub data Form : Type 0 where
  addr : Form
  indexed_addr : Size → Form
  blocks : Size → Form
  exprloc : Form
  data_of : Size → Form
  sdata : Form
  implicit : Form
  flag_byte : Form
  flag_present : Form
  string : Form
  string_elsewhere : Size → Form
  reference : Size → Form
  ref_addr : Form
  sec_offset : Form
  indexed_location : Form
  indexed_range : Form
  passed_over : ℕ → Form
  supplementary : Form

-- the forms by their codes, but for `indirect`
abbrev pub forms : List (ℕ × Form)
forms =
    (DW_FORM_addr, addr) ∷ (DW_FORM_block2, blocks (fixed 2)) ∷ (DW_FORM_block4, blocks (fixed 4)) ∷ (DW_FORM_data2, data_of (fixed 2)) ∷ (DW_FORM_data4, data_of (fixed 4)) ∷ (DW_FORM_data8, data_of (fixed 8))
    ∷ (DW_FORM_string, string) ∷ (DW_FORM_block, blocks variable) ∷ (DW_FORM_block1, blocks (fixed 1)) ∷ (DW_FORM_data1, data_of (fixed 1)) ∷ (DW_FORM_flag, flag_byte) ∷ (DW_FORM_sdata, sdata)
    ∷ (DW_FORM_strp, string_elsewhere (fixed 4)) ∷ (DW_FORM_udata, data_of variable) ∷ (DW_FORM_ref_addr, ref_addr) ∷ (DW_FORM_ref1, reference (fixed 1)) ∷ (DW_FORM_ref2, reference (fixed 2))
    ∷ (DW_FORM_ref4, reference (fixed 4)) ∷ (DW_FORM_ref8, reference (fixed 8)) ∷ (DW_FORM_ref_udata, reference variable) ∷ (DW_FORM_sec_offset, sec_offset) ∷ (DW_FORM_exprloc, exprloc) ∷ (DW_FORM_flag_present, flag_present)
    ∷ (DW_FORM_strx, string_elsewhere variable) ∷ (DW_FORM_addrx, indexed_addr variable) ∷ (DW_FORM_ref_sup4, supplementary) ∷ (DW_FORM_strp_sup, supplementary) ∷ (DW_FORM_data16, passed_over 16)
    ∷ (DW_FORM_line_strp, string_elsewhere (fixed 4)) ∷ (DW_FORM_ref_sig8, passed_over 8) ∷ (DW_FORM_implicit_const, implicit) ∷ (DW_FORM_loclistx, indexed_location) ∷ (DW_FORM_rnglistx, indexed_range) ∷ (DW_FORM_ref_sup8, supplementary)
    ∷ (DW_FORM_strx1, string_elsewhere (fixed 1)) ∷ (DW_FORM_strx2, string_elsewhere (fixed 2)) ∷ (DW_FORM_strx3, string_elsewhere (fixed 3)) ∷ (DW_FORM_strx4, string_elsewhere (fixed 4))
    ∷ (DW_FORM_addrx1, indexed_addr (fixed 1)) ∷ (DW_FORM_addrx2, indexed_addr (fixed 2)) ∷ (DW_FORM_addrx3, indexed_addr (fixed 3)) ∷ (DW_FORM_addrx4, indexed_addr (fixed 4)) ∷ []

-- the form of a code
abbrev pub form_of : ℕ → Option Form
form_of code = coded forms code

-- whether a code is among some
abbrev pub is_one_of : List ℕ → ℕ → Bool
is_one_of codes code = list_any (λ c. c == code) codes

-- the attributes whose value may be a location list (DWARF 4, section 7.5.4; DWARF 5, table 7.5): location,
-- string_length, return_addr, data_member_location, frame_base, segment, static_link, use_location, vtable_elem_location
abbrev pub is_location_name : ℕ → Bool
is_location_name name = is_one_of (DW_AT_location ∷ DW_AT_string_length ∷ DW_AT_return_addr ∷ DW_AT_data_member_location ∷ DW_AT_frame_base ∷ DW_AT_segment ∷ DW_AT_static_link ∷ DW_AT_use_location ∷ DW_AT_vtable_elem_location ∷ []) name

-- the attributes whose value may be a range list
abbrev pub is_range_name : ℕ → Bool
is_range_name name = (name == DW_AT_ranges) || (name == DW_AT_start_scope)

-- the attributes whose block is an expression: besides, byte_size, bit_size, lower_bound, bit_stride, upper_bound,
-- count, allocated, associated, data_location, byte_stride
abbrev pub is_expression_name : ℕ → Bool
is_expression_name name = is_location_name name || is_one_of (DW_AT_byte_size ∷ DW_AT_bit_size ∷ DW_AT_lower_bound ∷ DW_AT_bit_stride ∷ DW_AT_upper_bound ∷ DW_AT_count ∷ DW_AT_allocated ∷ DW_AT_associated ∷ DW_AT_data_location ∷ DW_AT_byte_stride ∷ []) name

-- what a section offset means under a name
abbrev pub section_offset : ℕ → ℕ → Value
section_offset name n =
    if is_location_name name then location_reference n
    else (if name == DW_AT_stmt_list then line_reference n else (if is_range_name name then range_reference n else dropped))

-- what a block means under a name
abbrev pub block_value : ℕ → List ℕ → Value
block_value name bytes = if is_expression_name name then expression bytes else block bytes

-- A constant of four bytes was a section offset in the versions 2 and 3, under the names that have one.
abbrev pub constant_value : ℕ → ℕ → ℕ → ℕ → Value
constant_value version name code n =
    if (code == DW_FORM_data4) && nat_lt version 4 && (is_location_name name || (name == DW_AT_stmt_list) || is_range_name name)
    then section_offset name n
    else constant code n

-- a number of a size
unfoldable pub sized_number_at : Size → Unread → Read ℕ
sized_number_at (fixed size) u = number_at size u
sized_number_at variable u = uleb_at u

-- a length and that many bytes
unfoldable pub block_at : Size → Unread → Read (List ℕ)
block_at size u = do
  length_of ← sized_number_at size u
  bytes_at length_of.0 length_of.1

-- The value of a form, in a section with some relocations. A reference to another unit has an address's size in version 2.
unfoldable pub formed_value_at : List Relocation → Encoding → AttributeSpec → ℕ → Form → Unread → Read Value
formed_value_at relocations e spec code addr u = seen_as address (address_at relocations e.address_size u)
formed_value_at relocations e spec code (indexed_addr size) u = seen_as address_index (sized_number_at size u)
formed_value_at relocations e spec code (blocks size) u = seen_as (block_value spec.name) (block_at size u)
formed_value_at relocations e spec code exprloc u = seen_as expression (block_at variable u)
formed_value_at relocations e spec code (data_of size) u = seen_as (constant_value e.version spec.name code) (sized_number_at size u)
formed_value_at relocations e spec code sdata u = seen_as (λ z. constant code (cast_unsigned w64 z)) (sleb_at u)
formed_value_at relocations e spec code implicit u = Ok (constant code (cast_unsigned w64 spec.implicit), u)
formed_value_at relocations e spec code flag_byte u = seen_as (λ n. flag (not (n == 0))) (number_at 1 u)
formed_value_at relocations e spec code flag_present u = Ok (flag true, u)
formed_value_at relocations e spec code string u = seen_as text (text_at u)
formed_value_at relocations e spec code (string_elsewhere size) u = seen_as (text_reference code) (sized_number_at size u)
formed_value_at relocations e spec code (reference size) u = seen_as unit_reference (sized_number_at size u)
formed_value_at relocations e spec code ref_addr u = seen_as info_reference (number_at (if e.version == 2 then e.address_size else 4) u)
formed_value_at relocations e spec code sec_offset u = seen_as (section_offset spec.name) (number_at 4 u)
formed_value_at relocations e spec code indexed_location u = seen_as (λ n. if is_location_name spec.name then location_index n else dropped) (uleb_at u)
formed_value_at relocations e spec code indexed_range u = seen_as (λ n. if is_range_name spec.name then range_index n else dropped) (uleb_at u)
formed_value_at relocations e spec code (passed_over size) u = seen_as (λ bytes. dropped) (bytes_at size u)
formed_value_at relocations e spec code supplementary u = Err (Refused Supplementary)

-- The form that stands behind `indirect`, which may stand there again. An implicit constant has no value there.
unfoldable pub form_behind : ℕ → Unread → Read ℕ
form_behind zero u = Err Malformed
form_behind (suc most) u = do
  code ← uleb_at u
  elim (code.0 == DW_FORM_indirect) [ true ↦ form_behind most code.1 | false ↦ (forbid (code.0 == DW_FORM_implicit_const) Malformed >>= λ given. Ok code) ]

-- the code of a value's form, which may stand in front of the value
unfoldable pub form_code_at : AttributeSpec → Unread → Read ℕ
form_code_at spec u = elim (spec.form == DW_FORM_indirect) [ true ↦ form_behind (length u.left) u | false ↦ Ok (spec.form, u) ]

-- the value of a form by its code; a code that names no form spells none
unfoldable pub encoded_value_at : List Relocation → Encoding → AttributeSpec → Unread → Read Value
encoded_value_at relocations e spec u = do
  code ← form_code_at spec u
  elim (form_of code.0) [ None ↦ Err Malformed | Some form ↦ formed_value_at relocations e spec code.0 form code.1 ]

-- how a unit spells its values
abbrev pub encoding_of : UnitHeader → Encoding
encoding_of h = record { version = h.version; address_size = h.address_size }

-- the value of an attribute of an entry of a unit
unfoldable pub value_at : Sections → UnitHeader → AttributeSpec → Unread → Read Value
value_at s h spec u = encoded_value_at (s.relocations Info) (encoding_of h) spec u
