-- Each form with the value that it has, and what names make of it.
use Rattle.std.proofs.Common.{◌≡◌, ℕ, List, [], ◌∷◌, Ok, Err, true, false, refl}
use Rattle.dwc_base.specs.declared.faults.Flaw.TheVariants.{Malformed, Refused}
use Rattle.dwc_base.specs.declared.faults.Kind.TheVariants.{Supplementary}
use Rattle.dwc_base.specs.declared.records.Address.TheVariants.{Constant}
use Rattle.dwc_dwarf.specs.Values.{Value, address, address_index, constant, flag, block, expression, text, text_reference, line_reference, range_reference, range_index, location_reference, location_index, unit_reference, info_reference, dropped, value_at}
use Rattle.dwc_worked.proofs.Cases.{spec, value_of}
use Rattle.dwc_worked.proofs.Numbers.{at_start, at_place}
use Rattle.dwc_worked.proofs.Readings.{sections_small, header_small}
use Rattle.dwc_base.specs.declared.records.Endian.TheVariants.{Little}
use Rattle.dwc_base.specs.Reading.{Read}
use Rattle.dwc_worked.proofs.OnLiterals.{units_on_literals}

-- The name is DW_AT_name (03) where nothing hangs on it; each value has the byte 07 behind it.

-- an address of the unit's size
addr : value_of 4 0x11 0x01 (0x04 ∷ 0x03 ∷ 0x02 ∷ 0x01 ∷ 0x07 ∷ []) ≡ Ok (address (Constant 0x01020304), at_place 4 (7 ∷ []))
unfolding units_on_literals
addr = refl

-- two bytes of length
block2 : value_of 4 0x03 0x03 (0x02 ∷ 0x00 ∷ 0xAA ∷ 0xBB ∷ 0x07 ∷ []) ≡ Ok (block (0xAA ∷ 0xBB ∷ []), at_place 4 (7 ∷ []))
unfolding units_on_literals
block2 = refl

-- four bytes of length
block4 : value_of 4 0x03 0x04 (0x01 ∷ 0x00 ∷ 0x00 ∷ 0x00 ∷ 0xAA ∷ 0x07 ∷ []) ≡ Ok (block (0xAA ∷ []), at_place 5 (7 ∷ []))
unfolding units_on_literals
block4 = refl

-- a constant of two bytes
data2 : value_of 4 0x03 0x05 (0x02 ∷ 0x01 ∷ 0x07 ∷ []) ≡ Ok (constant 0x05 0x0102, at_place 2 (7 ∷ []))
unfolding units_on_literals
data2 = refl

-- a constant of four bytes
data4 : value_of 4 0x03 0x06 (0x04 ∷ 0x03 ∷ 0x02 ∷ 0x01 ∷ 0x07 ∷ []) ≡ Ok (constant 0x06 0x01020304, at_place 4 (7 ∷ []))
unfolding units_on_literals
data4 = refl

-- a constant of eight bytes
data8 : value_of 4 0x03 0x07 (0xFF ∷ 0xFF ∷ 0xFF ∷ 0xFF ∷ 0xFF ∷ 0xFF ∷ 0xFF ∷ 0xFF ∷ 0x07 ∷ []) ≡ Ok (constant 0x07 0xFFFFFFFFFFFFFFFF, at_place 8 (7 ∷ []))
unfolding units_on_literals
data8 = refl

-- a text in place
string : value_of 4 0x03 0x08 (0x61 ∷ 0x62 ∷ 0x00 ∷ 0x07 ∷ []) ≡ Ok (text (0x61 ∷ 0x62 ∷ []), at_place 3 (7 ∷ []))
unfolding units_on_literals
string = refl

-- a length of variable size
block_uleb : value_of 4 0x03 0x09 (0x81 ∷ 0x00 ∷ 0xAA ∷ 0x07 ∷ []) ≡ Ok (block (0xAA ∷ []), at_place 3 (7 ∷ []))
unfolding units_on_literals
block_uleb = refl

-- one byte of length, and no bytes
block1 : value_of 4 0x03 0x0A (0x00 ∷ 0x07 ∷ []) ≡ Ok (block [], at_place 1 (7 ∷ []))
unfolding units_on_literals
block1 = refl

-- a constant of one byte
data1 : value_of 4 0x03 0x0B (0xFF ∷ 0x07 ∷ []) ≡ Ok (constant 0x0B 255, at_place 1 (7 ∷ []))
unfolding units_on_literals
data1 = refl

-- a flag that is 0
flag_off : value_of 4 0x03 0x0C (0x00 ∷ 0x07 ∷ []) ≡ Ok (flag false, at_place 1 (7 ∷ []))
unfolding units_on_literals
flag_off = refl

-- any other byte is true
flag_on : value_of 4 0x03 0x0C (0x02 ∷ 0x07 ∷ []) ≡ Ok (flag true, at_place 1 (7 ∷ []))
unfolding units_on_literals
flag_on = refl

-- a signed constant as its 64 bits
sdata : value_of 4 0x03 0x0D (0x7F ∷ 0x07 ∷ []) ≡ Ok (constant 0x0D 0xFFFFFFFFFFFFFFFF, at_place 1 (7 ∷ []))
unfolding units_on_literals
sdata = refl

-- a text elsewhere, by four bytes
strp : value_of 4 0x03 0x0E (0x10 ∷ 0x00 ∷ 0x00 ∷ 0x00 ∷ 0x07 ∷ []) ≡ Ok (text_reference 0x0E 16, at_place 4 (7 ∷ []))
unfolding units_on_literals
strp = refl

-- an unsigned constant of variable size
udata : value_of 4 0x03 0x0F (0xE5 ∷ 0x8E ∷ 0x26 ∷ 0x07 ∷ []) ≡ Ok (constant 0x0F 624485, at_place 3 (7 ∷ []))
unfolding units_on_literals
udata = refl

-- a place of the section, by four bytes
ref_addr : value_of 4 0x49 0x10 (0x10 ∷ 0x00 ∷ 0x00 ∷ 0x00 ∷ 0x07 ∷ []) ≡ Ok (info_reference 16, at_place 4 (7 ∷ []))
unfolding units_on_literals
ref_addr = refl

-- in version 2 by an address's size
ref_addr-2 : value_of 2 0x49 0x10 (0x10 ∷ 0x00 ∷ 0x00 ∷ 0x00 ∷ 0x07 ∷ []) ≡ Ok (info_reference 16, at_place 4 (7 ∷ []))
unfolding units_on_literals
ref_addr-2 = refl

-- an address of eight bytes, and with it a reference of version 2
abbrev pub value_of_8 : ℕ → ℕ → ℕ → List ℕ → Read Value
value_of_8 version name form bytes = value_at sections_small (record header_small { version = version; address_size = 8 }) (spec name form) (at_start Little bytes)

addr-8 : value_of_8 4 0x11 0x01 (0x08 ∷ 0x07 ∷ 0x06 ∷ 0x05 ∷ 0x04 ∷ 0x03 ∷ 0x02 ∷ 0x01 ∷ []) ≡ Ok (address (Constant 0x0102030405060708), at_place 8 [])
unfolding units_on_literals
addr-8 = refl

ref_addr-2-8 : value_of_8 2 0x49 0x10 (0x10 ∷ 0x00 ∷ 0x00 ∷ 0x00 ∷ 0x00 ∷ 0x00 ∷ 0x00 ∷ 0x00 ∷ []) ≡ Ok (info_reference 16, at_place 8 [])
unfolding units_on_literals
ref_addr-2-8 = refl

ref_addr-3-8 : value_of_8 3 0x49 0x10 (0x10 ∷ 0x00 ∷ 0x00 ∷ 0x00 ∷ []) ≡ Ok (info_reference 16, at_place 4 [])
unfolding units_on_literals
ref_addr-3-8 = refl

-- a place of the unit by one byte
ref1 : value_of 4 0x49 0x11 (0x10 ∷ 0x07 ∷ []) ≡ Ok (unit_reference 16, at_place 1 (7 ∷ []))
unfolding units_on_literals
ref1 = refl

-- by two
ref2 : value_of 4 0x49 0x12 (0x10 ∷ 0x00 ∷ 0x07 ∷ []) ≡ Ok (unit_reference 16, at_place 2 (7 ∷ []))
unfolding units_on_literals
ref2 = refl

-- by four
ref4 : value_of 4 0x49 0x13 (0x10 ∷ 0x00 ∷ 0x00 ∷ 0x00 ∷ 0x07 ∷ []) ≡ Ok (unit_reference 16, at_place 4 (7 ∷ []))
unfolding units_on_literals
ref4 = refl

-- by eight
ref8 : value_of 4 0x49 0x14 (0x10 ∷ 0x00 ∷ 0x00 ∷ 0x00 ∷ 0x00 ∷ 0x00 ∷ 0x00 ∷ 0x00 ∷ 0x07 ∷ []) ≡ Ok (unit_reference 16, at_place 8 (7 ∷ []))
unfolding units_on_literals
ref8 = refl

-- by a number of variable size
ref_udata : value_of 4 0x49 0x15 (0x80 ∷ 0x01 ∷ 0x07 ∷ []) ≡ Ok (unit_reference 128, at_place 2 (7 ∷ []))
unfolding units_on_literals
ref_udata = refl

-- an expression, whatever the name
exprloc : value_of 4 0x03 0x18 (0x02 ∷ 0x91 ∷ 0x12 ∷ 0x07 ∷ []) ≡ Ok (expression (0x91 ∷ 0x12 ∷ []), at_place 3 (7 ∷ []))
unfolding units_on_literals
exprloc = refl

-- a flag without bytes
flag_present : value_of 4 0x03 0x19 (0x07 ∷ []) ≡ Ok (flag true, at_place 0 (7 ∷ []))
unfolding units_on_literals
flag_present = refl

-- a text by index
strx : value_of 5 0x03 0x1A (0x80 ∷ 0x01 ∷ 0x07 ∷ []) ≡ Ok (text_reference 0x1A 128, at_place 2 (7 ∷ []))
unfolding units_on_literals
strx = refl

-- an address by index
addrx : value_of 5 0x11 0x1B (0x03 ∷ 0x07 ∷ []) ≡ Ok (address_index 3, at_place 1 (7 ∷ []))
unfolding units_on_literals
addrx = refl

-- sixteen bytes are passed
data16 : value_of 5 0x03 0x1E (0x00 ∷ 0x00 ∷ 0x00 ∷ 0x00 ∷ 0x00 ∷ 0x00 ∷ 0x00 ∷ 0x00 ∷ 0x00 ∷ 0x00 ∷ 0x00 ∷ 0x00 ∷ 0x00 ∷ 0x00 ∷ 0x00 ∷ 0x00 ∷ 0x07 ∷ []) ≡ Ok (dropped, at_place 16 (7 ∷ []))
unfolding units_on_literals
data16 = refl

-- a text of the line tables
line_strp : value_of 5 0x03 0x1F (0x10 ∷ 0x00 ∷ 0x00 ∷ 0x00 ∷ 0x07 ∷ []) ≡ Ok (text_reference 0x1F 16, at_place 4 (7 ∷ []))
unfolding units_on_literals
line_strp = refl

-- eight bytes are passed
ref_sig8 : value_of 4 0x03 0x20 (0x00 ∷ 0x00 ∷ 0x00 ∷ 0x00 ∷ 0x00 ∷ 0x00 ∷ 0x00 ∷ 0x00 ∷ 0x07 ∷ []) ≡ Ok (dropped, at_place 8 (7 ∷ []))
unfolding units_on_literals
ref_sig8 = refl

-- a location list by index, under a name that has one
loclistx : value_of 5 0x02 0x22 (0x03 ∷ 0x07 ∷ []) ≡ Ok (location_index 3, at_place 1 (7 ∷ []))
unfolding units_on_literals
loclistx = refl

-- and under another name
loclistx-other : value_of 5 0x03 0x22 (0x03 ∷ 0x07 ∷ []) ≡ Ok (dropped, at_place 1 (7 ∷ []))
unfolding units_on_literals
loclistx-other = refl

-- a range list by index, under `ranges`
rnglistx : value_of 5 0x55 0x23 (0x03 ∷ 0x07 ∷ []) ≡ Ok (range_index 3, at_place 1 (7 ∷ []))
unfolding units_on_literals
rnglistx = refl

-- under `start_scope`
rnglistx-start_scope : value_of 5 0x2C 0x23 (0x03 ∷ 0x07 ∷ []) ≡ Ok (range_index 3, at_place 1 (7 ∷ []))
unfolding units_on_literals
rnglistx-start_scope = refl

-- and under another name
rnglistx-other : value_of 5 0x02 0x23 (0x03 ∷ 0x07 ∷ []) ≡ Ok (dropped, at_place 1 (7 ∷ []))
unfolding units_on_literals
rnglistx-other = refl

-- a text by an index of one byte
strx1 : value_of 5 0x03 0x25 (0x03 ∷ 0x07 ∷ []) ≡ Ok (text_reference 0x25 3, at_place 1 (7 ∷ []))
unfolding units_on_literals
strx1 = refl

-- of two
strx2 : value_of 5 0x03 0x26 (0x03 ∷ 0x00 ∷ 0x07 ∷ []) ≡ Ok (text_reference 0x26 3, at_place 2 (7 ∷ []))
unfolding units_on_literals
strx2 = refl

-- of three
strx3 : value_of 5 0x03 0x27 (0x03 ∷ 0x00 ∷ 0x00 ∷ 0x07 ∷ []) ≡ Ok (text_reference 0x27 3, at_place 3 (7 ∷ []))
unfolding units_on_literals
strx3 = refl

-- of four
strx4 : value_of 5 0x03 0x28 (0x03 ∷ 0x00 ∷ 0x00 ∷ 0x00 ∷ 0x07 ∷ []) ≡ Ok (text_reference 0x28 3, at_place 4 (7 ∷ []))
unfolding units_on_literals
strx4 = refl

-- an address by an index of one byte
addrx1 : value_of 5 0x11 0x29 (0x03 ∷ 0x07 ∷ []) ≡ Ok (address_index 3, at_place 1 (7 ∷ []))
unfolding units_on_literals
addrx1 = refl

-- of two
addrx2 : value_of 5 0x11 0x2A (0x03 ∷ 0x00 ∷ 0x07 ∷ []) ≡ Ok (address_index 3, at_place 2 (7 ∷ []))
unfolding units_on_literals
addrx2 = refl

-- of three
addrx3 : value_of 5 0x11 0x2B (0x03 ∷ 0x00 ∷ 0x00 ∷ 0x07 ∷ []) ≡ Ok (address_index 3, at_place 3 (7 ∷ []))
unfolding units_on_literals
addrx3 = refl

-- of four
addrx4 : value_of 5 0x11 0x2C (0x03 ∷ 0x00 ∷ 0x00 ∷ 0x00 ∷ 0x07 ∷ []) ≡ Ok (address_index 3, at_place 4 (7 ∷ []))
unfolding units_on_literals
addrx4 = refl

-- forms of supplementary files are refused
ref_sup4 : value_of 5 0x03 0x1C (0x00 ∷ 0x00 ∷ 0x00 ∷ 0x00 ∷ 0x07 ∷ []) ≡ Err (Refused Supplementary)
unfolding units_on_literals
ref_sup4 = refl

-- all three of them
ref_sup8 : value_of 5 0x03 0x24 (0x00 ∷ 0x00 ∷ 0x00 ∷ 0x00 ∷ 0x00 ∷ 0x00 ∷ 0x00 ∷ 0x00 ∷ 0x07 ∷ []) ≡ Err (Refused Supplementary)
unfolding units_on_literals
ref_sup8 = refl

-- a code behind the last form is none
no_form : value_of 5 0x03 0x2D (0x00 ∷ 0x07 ∷ []) ≡ Err Malformed
unfolding units_on_literals
no_form = refl

-- ---- section offsets and four bytes, by name and version

-- a section offset under a name that has location lists
offset-location : value_of 4 0x40 0x17 (0x10 ∷ 0x00 ∷ 0x00 ∷ 0x00 ∷ 0x07 ∷ []) ≡ Ok (location_reference 16, at_place 4 (7 ∷ []))
unfolding units_on_literals
offset-location = refl

-- under `stmt_list`
offset-lines : value_of 4 0x10 0x17 (0x10 ∷ 0x00 ∷ 0x00 ∷ 0x00 ∷ 0x07 ∷ []) ≡ Ok (line_reference 16, at_place 4 (7 ∷ []))
unfolding units_on_literals
offset-lines = refl

-- under `ranges`
offset-ranges : value_of 4 0x55 0x17 (0x10 ∷ 0x00 ∷ 0x00 ∷ 0x00 ∷ 0x07 ∷ []) ≡ Ok (range_reference 16, at_place 4 (7 ∷ []))
unfolding units_on_literals
offset-ranges = refl

-- under `start_scope`
offset-start_scope : value_of 4 0x2C 0x17 (0x10 ∷ 0x00 ∷ 0x00 ∷ 0x00 ∷ 0x07 ∷ []) ≡ Ok (range_reference 16, at_place 4 (7 ∷ []))
unfolding units_on_literals
offset-start_scope = refl

-- four bytes in version 3 under a name that has location lists
data4-location-3 : value_of 3 0x38 0x06 (0x10 ∷ 0x00 ∷ 0x00 ∷ 0x00 ∷ 0x07 ∷ []) ≡ Ok (location_reference 16, at_place 4 (7 ∷ []))
unfolding units_on_literals
data4-location-3 = refl

-- in version 2 under `stmt_list`
data4-lines-2 : value_of 2 0x10 0x06 (0x10 ∷ 0x00 ∷ 0x00 ∷ 0x00 ∷ 0x07 ∷ []) ≡ Ok (line_reference 16, at_place 4 (7 ∷ []))
unfolding units_on_literals
data4-lines-2 = refl

-- and not in version 4
data4-lines-4 : value_of 4 0x10 0x06 (0x10 ∷ 0x00 ∷ 0x00 ∷ 0x00 ∷ 0x07 ∷ []) ≡ Ok (constant 0x06 16, at_place 4 (7 ∷ []))
unfolding units_on_literals
data4-lines-4 = refl

-- nor under another name
data4-name-3 : value_of 3 0x03 0x06 (0x10 ∷ 0x00 ∷ 0x00 ∷ 0x00 ∷ 0x07 ∷ []) ≡ Ok (constant 0x06 16, at_place 4 (7 ∷ []))
unfolding units_on_literals
data4-name-3 = refl

-- eight bytes are a constant in version 3 too
data8-ranges-3 : value_of 3 0x55 0x07 (0x10 ∷ 0x00 ∷ 0x00 ∷ 0x00 ∷ 0x00 ∷ 0x00 ∷ 0x00 ∷ 0x00 ∷ 0x07 ∷ []) ≡ Ok (constant 0x07 16, at_place 8 (7 ∷ []))
unfolding units_on_literals
data8-ranges-3 = refl

-- a block under `upper_bound` is an expression
block-upper_bound : value_of 4 0x2F 0x0A (0x01 ∷ 0x30 ∷ 0x07 ∷ []) ≡ Ok (expression (0x30 ∷ []), at_place 2 (7 ∷ []))
unfolding units_on_literals
block-upper_bound = refl

-- and under `type` it is none
block-type : value_of 4 0x49 0x0A (0x01 ∷ 0x30 ∷ 0x07 ∷ []) ≡ Ok (block (0x30 ∷ []), at_place 2 (7 ∷ []))
unfolding units_on_literals
block-type = refl
