-- The section `.debug_frame` of an output, byte for byte. (DWARF 4 and 5, section 6.4; the encodings are those of DWARF 4, section
-- 7.23, and DWARF 5, section 7.24; the choice among spellings of one meaning is this project's own.)
use Rattle.std.specs.Prelude.{ℕ, ◌+◌, ◌-◌, ◌/◌, ◌%◌, ◌==◌, ℤ, pos, negsuc, int_div, List, [], ◌∷◌, ◌++◌, length, replicate, nat_lt, if◌then◌else◌, Option, Some, None}
use Rattle.std.specs.List.{flat_map}
use Rattle.dwc_base.specs.declared.records.Endian.{Endian}
use Rattle.dwc_base.specs.declared.section_name.SectionName.TheVariants.{Frame}
use Rattle.dwc_base.specs.declared.constants.TheConstants.{DW_CFA_advance_loc, DW_CFA_advance_loc1, DW_CFA_advance_loc2, DW_CFA_advance_loc4, DW_CFA_def_cfa, DW_CFA_def_cfa_offset, DW_CFA_def_cfa_offset_sf, DW_CFA_def_cfa_register, DW_CFA_def_cfa_sf, DW_CFA_nop, DW_CFA_offset, DW_CFA_offset_extended, DW_CFA_offset_extended_sf, DW_CFA_remember_state, DW_CFA_restore, DW_CFA_restore_extended, DW_CFA_restore_state, DW_CFA_same_value, DW_CFA_undefined}
use Rattle.dwc_base.specs.Sections.{section_text}
use Rattle.dwc_base.specs.Outputs.{function, section, OutputRelocation, OutputSection}
use Rattle.dwc_base.specs.NumberBytes.{number_bytes, uleb_bytes, sleb_bytes}
use Rattle.dwc_native.specs.CallFrames.{FrameInstruction, def_cfa, def_cfa_register, def_cfa_offset, restore, undefined, same_value, saved_at, remember_state, restore_state, CommonEntry, FrameDescription}

-- A number of an entry, by its encoding: one of so many bytes; one of the size of an address; an unsigned and a signed LEB128 number.
pub data FrameNumber : Type 0 where
  fixed : ℕ → ℕ → FrameNumber
  address_sized : ℕ → FrameNumber
  uleb : ℕ → FrameNumber
  sleb : ℤ → FrameNumber

-- the bytes of a number, by the byte order and the size of an address
abbrev pub frame_number_bytes : Endian → ℕ → FrameNumber → List ℕ
frame_number_bytes order size (fixed count n) = number_bytes order count n
frame_number_bytes order size (address_sized n) = number_bytes order size n
frame_number_bytes order size (uleb n) = uleb_bytes n
frame_number_bytes order size (sleb z) = sleb_bytes z

-- a byte
abbrev pub one_byte : ℕ → FrameNumber
one_byte b = fixed 1 b

-- ---- instructions

-- an instruction with a register, which stands in the low six bits of the opcode where it fits, and else behind an extended opcode
abbrev pub with_register : ℕ → ℕ → ℕ → List FrameNumber
with_register opcode extended register = if nat_lt register 64 then one_byte (opcode + register) ∷ [] else one_byte extended ∷ uleb register ∷ []

-- an offset from 0 on as it is; one below 0 factored, behind another opcode
abbrev pub by_sign : ℕ → ℕ → List FrameNumber → ℤ → ℤ → List FrameNumber
by_sign opcode signed_opcode register factor (pos n) = one_byte opcode ∷ register ++ uleb n ∷ []
by_sign opcode signed_opcode register factor (negsuc n) = one_byte signed_opcode ∷ register ++ sleb (int_div (negsuc n) factor) ∷ []

-- where a register is saved, by its factored offset
abbrev pub saved_numbers : ℕ → ℤ → List FrameNumber
saved_numbers register (pos n) = with_register DW_CFA_offset DW_CFA_offset_extended register ++ uleb n ∷ []
saved_numbers register (negsuc n) = one_byte DW_CFA_offset_extended_sf ∷ uleb register ∷ sleb (negsuc n) ∷ []

-- An instruction, by the data factor.
abbrev pub instruction_numbers : ℤ → FrameInstruction → List FrameNumber
instruction_numbers factor (def_cfa register offset) = by_sign DW_CFA_def_cfa DW_CFA_def_cfa_sf (uleb register ∷ []) factor offset
instruction_numbers factor (def_cfa_register register) = one_byte DW_CFA_def_cfa_register ∷ uleb register ∷ []
instruction_numbers factor (def_cfa_offset offset) = by_sign DW_CFA_def_cfa_offset DW_CFA_def_cfa_offset_sf [] factor offset
instruction_numbers factor (restore register) = with_register DW_CFA_restore DW_CFA_restore_extended register
instruction_numbers factor (undefined register) = one_byte DW_CFA_undefined ∷ uleb register ∷ []
instruction_numbers factor (same_value register) = one_byte DW_CFA_same_value ∷ uleb register ∷ []
instruction_numbers factor (saved_at register offset) = saved_numbers register (int_div offset factor)
instruction_numbers factor remember_state = one_byte DW_CFA_remember_state ∷ []
instruction_numbers factor restore_state = one_byte DW_CFA_restore_state ∷ []

-- an advance by so many units of the code factor
abbrev pub advance_numbers : ℕ → List FrameNumber
advance_numbers n =
    if n == 0 then []
    else (if nat_lt n 0x40 then one_byte (DW_CFA_advance_loc + n) ∷ []
    else (if nat_lt n 0x100 then one_byte DW_CFA_advance_loc1 ∷ fixed 1 n ∷ []
    else (if nat_lt n 0x10000 then one_byte DW_CFA_advance_loc2 ∷ fixed 2 n ∷ []
    else one_byte DW_CFA_advance_loc4 ∷ fixed 4 n ∷ [])))

-- instructions with the native offsets from which they hold, each behind an advance; the first offset is the one before them
abbrev pub advancing_numbers : CommonEntry → ℕ → List (ℕ × FrameInstruction) → List FrameNumber
advancing_numbers c before [] = []
advancing_numbers c before (i ∷ is) = advance_numbers ((i.0 - before) / c.code_factor) ++ instruction_numbers c.data_factor i.1 ++ advancing_numbers c i.0 is

-- ---- entries

-- A common information entry behind its length: its mark, version 1, no augmentation, the factors, the return register, which is a byte
-- in version 1, and the instructions.
abbrev pub common_numbers : CommonEntry → List FrameNumber
common_numbers c = fixed 4 0xFFFFFFFF ∷ one_byte 1 ∷ one_byte 0 ∷ uleb c.code_factor ∷ sleb c.data_factor ∷ one_byte c.return_register ∷ flat_map (instruction_numbers c.data_factor) c.instructions

-- A frame description entry behind its length: the offset of the common one, the address of the function, how many bytes of code it
-- speaks of, and the instructions.
abbrev pub description_numbers : CommonEntry → FrameDescription → List FrameNumber
description_numbers c d = fixed 4 0 ∷ address_sized 0 ∷ address_sized d.length ∷ advancing_numbers c 0 d.instructions

-- how many nops fill an entry of so many bytes behind its length, up to a multiple of the size of an address
abbrev pub filling : ℕ → ℕ → ℕ
filling size count = (size - (4 + count) % size) % size

-- bytes with their length in front, filled
abbrev pub filled : Endian → ℕ → List ℕ → List ℕ
filled order size bytes = number_bytes order 4 (length bytes + filling size (length bytes)) ++ bytes ++ replicate (filling size (length bytes)) DW_CFA_nop

-- an entry by its numbers
unfoldable pub frame_entry_bytes : Endian → ℕ → List FrameNumber → List ℕ
frame_entry_bytes order size numbers = filled order size (flat_map (frame_number_bytes order size) numbers)

-- the bytes of the common entry, and of a frame description entry
abbrev pub common_bytes : Endian → ℕ → CommonEntry → List ℕ
common_bytes order size c = frame_entry_bytes order size (common_numbers c)

abbrev pub description_bytes : Endian → ℕ → CommonEntry → ℕ × FrameDescription → List ℕ
description_bytes order size c d = frame_entry_bytes order size (description_numbers c d.1)

-- ---- the section

-- the relocations of the entry of a function, which stands at a place: of the common entry's offset, and of the function's address
abbrev pub description_relocations : ℕ → ℕ → ℕ → List OutputRelocation
description_relocations size place number =
    record { offset = place + 4; size = 4; target = section (section_text Frame); addend = pos 0 }
    ∷ record { offset = place + 8; size = size; target = function number; addend = pos 0 } ∷ []

-- the same of entries one behind another
abbrev pub descriptions_relocations : Endian → ℕ → CommonEntry → ℕ → List (ℕ × FrameDescription) → List OutputRelocation
descriptions_relocations order size c place [] = []
descriptions_relocations order size c place (d ∷ ds) = description_relocations size place d.0 ++ descriptions_relocations order size c (place + length (description_bytes order size c d)) ds

-- The section with a common entry, and the frame descriptions of functions by their numbers.
unfoldable pub frame_section : Endian → ℕ → CommonEntry → List (ℕ × FrameDescription) → OutputSection
frame_section order size c ds = record {
  name = section_text Frame;
  body = common_bytes order size c ++ flat_map (description_bytes order size c) ds;
  relocations = descriptions_relocations order size c (length (common_bytes order size c)) ds;
}

-- The section that is written, if one is: none without a common entry, and none without a description.
abbrev pub frame_section_if : Endian → ℕ → Option CommonEntry → List (ℕ × FrameDescription) → List OutputSection
frame_section_if order size None ds = []
frame_section_if order size (Some c) [] = []
frame_section_if order size (Some c) (d ∷ ds) = frame_section order size c (d ∷ ds) ∷ []
