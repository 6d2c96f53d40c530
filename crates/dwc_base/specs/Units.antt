-- Unit headers. (DWARF 4 and 5, section 7.5.1; initial lengths, sections 7.2.2 and 7.4.)
use Rattle.std.specs.Prelude.{ℕ, ◌==◌, length, true, false, nat_lt, nat_le, not, ◌||◌, if◌then◌else◌, Option, Some, None, Result, Ok, Err}
use Rattle.dwc_base.specs.declared.section_name.SectionName.TheVariants.{Info}
use Rattle.dwc_base.specs.declared.faults.What.TheVariants.{UnitHeader as UnitHeaderRead}
use Rattle.dwc_base.specs.declared.faults.Kind.TheVariants.{Format64, Version, TypeUnit, AddressSize}
use Rattle.dwc_base.specs.declared.faults.Flaw.{Flaw}
use Rattle.dwc_base.specs.declared.faults.Flaw.TheVariants.{Malformed, Refused}
use Rattle.dwc_base.specs.Reading.{Unread, Read, ◌>>=◌, forbid, number_at, part_at}
use Rattle.dwc_base.specs.Listing.{Listing, Next, at_end, broken, item, walk}
use Rattle.dwc_base.specs.Sections.{Sections, section_from, Fault, fault_of}
use Rattle.dwc_base.specs.declared.constants.TheConstants.{DW_UT_compile, DW_UT_skeleton, DW_UT_split_compile, DW_UT_split_type, DW_UT_type}

-- A unit's header, as a value: where the unit begins and ends, its encoding, its type (1 below version 5), its
-- abbreviation table, the id of a skeleton or of a split unit, and what is unread behind the header.
pub record UnitHeader : Type 0 where
  pub offset : ℕ
  pub end : ℕ
  pub version : ℕ
  pub address_size : ℕ
  pub unit_type : ℕ
  pub abbreviations : ℕ
  pub dwo_id : Option ℕ
  pub content : Unread

-- An initial length: 0xFFFFFFFF begins the 64-bit format, and from 0xFFFFFFF0 on the values are reserved. What
-- has the length must be there.
unfoldable pub sized_part_at : Unread → Read Unread
sized_part_at u = do
  size ← number_at 4 u
  narrow ← forbid (size.0 == 0xFFFFFFFF) (Refused Format64)
  plain ← forbid (nat_le 0xFFFFFFF0 size.0) Malformed
  part_at size.0 size.1

-- the fields of the versions 2 to 4, behind the version
unfoldable pub header_to_4 : ℕ → ℕ → ℕ → Unread → Result UnitHeader Flaw
header_to_4 offset end version u = do
  abbreviations ← number_at 4 u
  address_size ← number_at 1 abbreviations.1
  known ← forbid (not ((address_size.0 == 4) || (address_size.0 == 8))) (Refused AddressSize)
  Ok (record { offset = offset; end = end; version = version; address_size = address_size.0; unit_type = DW_UT_compile; abbreviations = abbreviations.0; dwo_id = None; content = address_size.1 })

-- the id of a skeleton (4) or split compile unit (5)
unfoldable pub dwo_id_at : ℕ → Unread → Read (Option ℕ)
dwo_id_at unit_type u =
    if (unit_type == DW_UT_skeleton) || (unit_type == DW_UT_split_compile)
    then (number_at 8 u >>= λ id. Ok (Some id.0, id.1))
    else Ok (None, u)

-- the fields of version 5, behind the version: types 2 and 6 are type units
unfoldable pub header_of_5 : ℕ → ℕ → Unread → Result UnitHeader Flaw
header_of_5 offset end u = do
  unit_type ← number_at 1 u
  plain ← forbid ((unit_type.0 == DW_UT_type) || (unit_type.0 == DW_UT_split_type)) (Refused TypeUnit)
  given ← forbid ((unit_type.0 == 0) || nat_lt DW_UT_split_type unit_type.0) Malformed
  address_size ← number_at 1 unit_type.1
  known ← forbid (not ((address_size.0 == 4) || (address_size.0 == 8))) (Refused AddressSize)
  abbreviations ← number_at 4 address_size.1
  id ← dwo_id_at unit_type.0 abbreviations.1
  Ok (record { offset = offset; end = end; version = 5; address_size = address_size.0; unit_type = unit_type.0; abbreviations = abbreviations.0; dwo_id = id.0; content = id.1 })

-- the header of the unit at the front, and what is unread behind the unit
unfoldable pub unit_header_at : Unread → Read UnitHeader
unit_header_at u = do
  unit ← sized_part_at u
  version ← number_at 2 unit.0
  known ← forbid (nat_lt version.0 2 || nat_lt 5 version.0) (Refused Version)
  header ← (if version.0 == 5 then header_of_5 u.place unit.1.place version.1 else header_to_4 u.place unit.1.place version.0 version.1)
  Ok (header, unit.1)

-- One header after another, each where the unit before ends, up to the section's end.
unfoldable pub next_unit_header : Unread → Next Unread Fault UnitHeader
next_unit_header u =
    elim (length u.left == 0) [
      | true ↦ at_end
      | false ↦ elim (unit_header_at u) [ Ok h ↦ item h.0 h.1 | Err flaw ↦ broken (fault_of UnitHeaderRead Info u.place flaw) ]
    ]

-- the headers from a place of .debug_info on
unfoldable pub unit_headers_from : Unread → Listing Fault UnitHeader
unit_headers_from u = walk (λ v. length v.left) next_unit_header u

-- the headers of .debug_info, the first at 0
abbrev pub unit_headers : Sections → Listing Fault UnitHeader
unit_headers s = unit_headers_from (section_from s Info 0)
