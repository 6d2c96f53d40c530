-- Cases of headers, values and line programs, worked out by hand.
use Rattle.std.proofs.Common.{◌≡◌, ℕ, negsuc, List, [], ◌∷◌, Some, None, Ok, Err, Result, true, false, refl}
use Rattle.std.specs.Prelude.{map}
use Rattle.dwc_worked.proofs.OnLiterals.{units_on_literals, lines_on_literals, files_on_literals}
use Rattle.dwc_worked.proofs.Numbers.{at_start, at_place}
use Rattle.dwc_worked.proofs.SmallModule.{abbreviations_small, info_small}
use Rattle.dwc_worked.proofs.DraftsOnLiterals.{drafts_on_literals}
use Rattle.std.specs.List.{filter}
use Rattle.dwc_worked.proofs.Readings.{three_sections, sections_small, header_small}
use Rattle.dwc_worked.proofs.LineTables.{segments_read, at_line, a_c, line_of_a_c}
use Rattle.dwc_base.specs.declared.records.OutputFor.TheVariants.{Default}
use Rattle.dwc_base.specs.declared.records.Endian.TheVariants.{Little}
use Rattle.dwc_base.specs.declared.faults.Flaw.TheVariants.{EndsEarly, Malformed, Refused}
use Rattle.dwc_base.specs.declared.faults.Kind.TheVariants.{Format64, Version, TypeUnit, Supplementary, Operations, AddressSize}
use Rattle.dwc_base.specs.declared.records.Address.TheVariants.{Constant}
use Rattle.dwc_base.specs.declared.section_name.SectionName.TheVariants.{Info, Line, Abbrev}
use Rattle.dwc_base.specs.declared.faults.What.TheVariants.{UnitHeader as UnitHeaderRead, Abbreviation, LineTable as LineTableRead, Entry as EntryRead}
use Rattle.dwc_base.specs.Reading.{Read}
use Rattle.dwc_base.specs.Listing.{Listing}
use Rattle.dwc_base.specs.Sections.{Fault, unreadable, unsupported}
use Rattle.dwc_base.specs.Units.{UnitHeader, unit_headers}
use Rattle.dwc_base.specs.Abbreviations.{AttributeSpec}
use Rattle.dwc_dwarf.specs.Values.{Value, constant, expression, block, text, flag, range_reference, line_reference, unit_reference, dropped, value_at}
use Rattle.dwc_dwarf.specs.Entries.{entries}
use Rattle.dwc_dwarf.specs.LineRows.{line_table}
use Rattle.dwc_native.specs.Functions.{Function}
use Rattle.dwc_rules.specs.Kept.{Placed}
use Rattle.dwc_rules.specs.KeptEntries.{kept_with}
use Rattle.dwc_rules.specs.EntryRules.{is_required}
use Rattle.dwc_base.specs.Wasm.{WasmModule, wasm_module}

-- ---- unit headers

abbrev pub headers_of : List ℕ → Listing Fault UnitHeader
headers_of info = unit_headers (three_sections [] info [])

-- a skeleton of version 5 with its id
skeleton : headers_of (0x19 ∷ 0x00 ∷ 0x00 ∷ 0x00 ∷ 0x05 ∷ 0x00 ∷ 0x04 ∷ 0x04 ∷ 0x00 ∷ 0x00 ∷ 0x00 ∷ 0x00 ∷ 0x01 ∷ 0x00 ∷ 0x00 ∷ 0x00 ∷ 0x00 ∷ 0x00 ∷ 0x00 ∷ 0x00 ∷ 0x01 ∷ 0x00 ∷ 0x00 ∷ 0x00 ∷ 0x00 ∷ 0x08 ∷ 0x00 ∷ 0x00 ∷ 0x00 ∷ []) ≡ record { items = record { offset = 0; end = 29; version = 5; address_size = 4; unit_type = 4; abbreviations = 0; dwo_id = Some 1; content = at_place 20 (0x01 ∷ 0x00 ∷ 0x00 ∷ 0x00 ∷ 0x00 ∷ 0x08 ∷ 0x00 ∷ 0x00 ∷ 0x00 ∷ []) } ∷ []; fault = None }
unfolding units_on_literals
skeleton = refl

-- the 64-bit format
format-64 : headers_of (0xFF ∷ 0xFF ∷ 0xFF ∷ 0xFF ∷ 0x00 ∷ 0x00 ∷ []) ≡ record { items = []; fault = Some (unsupported Format64 0) }
unfolding units_on_literals
format-64 = refl

-- a reserved length
reserved-length : headers_of (0xF0 ∷ 0xFF ∷ 0xFF ∷ 0xFF ∷ 0x00 ∷ 0x00 ∷ []) ≡ record { items = []; fault = Some (unreadable UnitHeaderRead Info 0) }
unfolding units_on_literals
reserved-length = refl

-- 0 is no unit type of version 5
unit-type-0 : headers_of (0x16 ∷ 0x00 ∷ 0x00 ∷ 0x00 ∷ 0x05 ∷ 0x00 ∷ 0x00 ∷ 0x00 ∷ 0x00 ∷ 0x00 ∷ 0x04 ∷ 0x01 ∷ 0x00 ∷ 0x00 ∷ 0x00 ∷ 0x00 ∷ 0x02 ∷ 0x02 ∷ 0x00 ∷ 0x00 ∷ 0x00 ∷ 0x0B ∷ 0x00 ∷ 0x00 ∷ 0x00 ∷ 0x00 ∷ []) ≡ record { items = []; fault = Some (unreadable UnitHeaderRead Info 0) }
unfolding units_on_literals
unit-type-0 = refl

-- a type unit
type-unit : headers_of (0x09 ∷ 0x00 ∷ 0x00 ∷ 0x00 ∷ 0x05 ∷ 0x00 ∷ 0x02 ∷ 0x04 ∷ 0x00 ∷ 0x00 ∷ 0x00 ∷ 0x00 ∷ 0x00 ∷ []) ≡ record { items = []; fault = Some (unsupported TypeUnit 0) }
unfolding units_on_literals
type-unit = refl

-- an unknown version
version-6 : headers_of (0x03 ∷ 0x00 ∷ 0x00 ∷ 0x00 ∷ 0x06 ∷ 0x00 ∷ 0x00 ∷ []) ≡ record { items = []; fault = Some (unsupported Version 0) }
unfolding units_on_literals
version-6 = refl

-- an address size of 2
address-size-2 : headers_of (0x07 ∷ 0x00 ∷ 0x00 ∷ 0x00 ∷ 0x04 ∷ 0x00 ∷ 0x00 ∷ 0x00 ∷ 0x00 ∷ 0x00 ∷ 0x02 ∷ []) ≡ record { items = []; fault = Some (unsupported AddressSize 0) }
unfolding units_on_literals
address-size-2 = refl

-- a unit that passes its section
past-the-end : headers_of (0x17 ∷ 0x00 ∷ 0x00 ∷ 0x00 ∷ 0x04 ∷ 0x00 ∷ 0x00 ∷ 0x00 ∷ 0x00 ∷ 0x00 ∷ 0x04 ∷ 0x01 ∷ 0x00 ∷ 0x00 ∷ 0x00 ∷ 0x00 ∷ 0x02 ∷ 0x02 ∷ 0x00 ∷ 0x00 ∷ 0x00 ∷ 0x0B ∷ 0x00 ∷ 0x00 ∷ 0x00 ∷ 0x00 ∷ []) ≡ record { items = []; fault = Some (unreadable UnitHeaderRead Info 0) }
unfolding units_on_literals
past-the-end = refl

-- a second header that is cut short: the fault stands behind the first
second-cut : headers_of (0x07 ∷ 0x00 ∷ 0x00 ∷ 0x00 ∷ 0x04 ∷ 0x00 ∷ 0x00 ∷ 0x00 ∷ 0x00 ∷ 0x00 ∷ 0x04 ∷ 0x07 ∷ 0x00 ∷ []) ≡ record { items = record { offset = 0; end = 11; version = 4; address_size = 4; unit_type = 1; abbreviations = 0; dwo_id = None; content = at_place 11 [] } ∷ []; fault = Some (unreadable UnitHeaderRead Info 11) }
unfolding units_on_literals
second-cut = refl

-- ---- tables and entries

-- a table without its end
table-cut : (entries (three_sections (0x01 ∷ 0x11 ∷ 0x01 ∷ 0x10 ∷ 0x17 ∷ 0x00 ∷ 0x00 ∷ []) info_small []) header_small).fault ≡ Some (unreadable Abbreviation Abbrev 0)
unfolding units_on_literals
table-cut = refl

-- the second entry has a code that the table lacks: the root, and then a fault at its offset
code-missing : entries (three_sections abbreviations_small [] []) (record header_small { content = at_place 11 (0x01 ∷ 0x00 ∷ 0x00 ∷ 0x00 ∷ 0x00 ∷ 0x03 ∷ []) }) ≡ record { items = record { offset = 11; depth = 0; tag = 0x11; attributes = (0x10, line_reference 0) ∷ [] } ∷ []; fault = Some (unreadable EntryRead Info 16) }
unfolding units_on_literals
code-missing = refl

-- ---- values, in a unit of version 4 and of version 3

abbrev pub spec : ℕ → ℕ → AttributeSpec
spec name form = record { name = name; form = form; implicit = negsuc 1 }

abbrev pub value_of : ℕ → ℕ → ℕ → List ℕ → Read Value
value_of version name form bytes = value_at sections_small (record header_small { version = version }) (spec name form) (at_start Little bytes)

-- a chain of indirect forms
indirect-data1 : value_of 4 0x0B 0x16 (0x16 ∷ 0x16 ∷ 0x0B ∷ 0x05 ∷ []) ≡ Ok (constant 0x0B 5, at_place 4 [])
unfolding units_on_literals
indirect-data1 = refl

-- no implicit constant stands behind an indirect form
indirect-implicit : value_of 4 0x0B 0x16 (0x21 ∷ 0x05 ∷ []) ≡ Err Malformed
unfolding units_on_literals
indirect-implicit = refl

-- an implicit constant of -2, as 64 bits
implicit-minus-2 : value_of 4 0x0B 0x21 ([]) ≡ Ok (constant 0x21 18446744073709551614, at_place 0 [])
unfolding units_on_literals
implicit-minus-2 = refl

-- a signed constant of -2, as 64 bits
sdata-minus-2 : value_of 4 0x0B 0x0D (0x7E ∷ []) ≡ Ok (constant 0x0D 18446744073709551614, at_place 1 [])
unfolding units_on_literals
sdata-minus-2 = refl

-- four bytes under `ranges` were an offset in version 3
data4-ranges-3 : value_of 3 0x55 0x06 (0x07 ∷ 0x00 ∷ 0x00 ∷ 0x00 ∷ []) ≡ Ok (range_reference 7, at_place 4 [])
unfolding units_on_literals
data4-ranges-3 = refl

-- and are a constant from version 4 on
data4-ranges-4 : value_of 4 0x55 0x06 (0x07 ∷ 0x00 ∷ 0x00 ∷ 0x00 ∷ []) ≡ Ok (constant 0x06 7, at_place 4 [])
unfolding units_on_literals
data4-ranges-4 = refl

-- an offset under a name that has none is dropped
offset-of-nothing : value_of 4 0x03 0x17 (0x07 ∷ 0x00 ∷ 0x00 ∷ 0x00 ∷ []) ≡ Ok (dropped, at_place 4 [])
unfolding units_on_literals
offset-of-nothing = refl

-- a block under `location` is an expression
block-location : value_of 4 0x02 0x0A (0x02 ∷ 0x91 ∷ 0x12 ∷ []) ≡ Ok (expression (0x91 ∷ 0x12 ∷ []), at_place 3 [])
unfolding units_on_literals
block-location = refl

-- and under another name a block
block-plain : value_of 4 0x03 0x0A (0x02 ∷ 0x91 ∷ 0x12 ∷ []) ≡ Ok (block (0x91 ∷ 0x12 ∷ []), at_place 3 [])
unfolding units_on_literals
block-plain = refl

-- a block that is cut short
block-cut : value_of 4 0x03 0x0A (0x03 ∷ 0x91 ∷ 0x12 ∷ []) ≡ Err EndsEarly
unfolding units_on_literals
block-cut = refl

-- a form of a supplementary file
supplementary-form : value_of 4 0x03 0x1D (0x00 ∷ 0x00 ∷ 0x00 ∷ 0x00 ∷ []) ≡ Err (Refused Supplementary)
unfolding units_on_literals
supplementary-form = refl

-- a form that is none
form-2 : value_of 4 0x03 0x02 (0x00 ∷ []) ≡ Err Malformed
unfolding units_on_literals
form-2 = refl

-- ---- line programs

-- special opcode 75 adds 4 to the address and 1 to the line; const_add_pc adds 17
abbrev pub program_special : List ℕ
program_special = 0x31 ∷ 0x00 ∷ 0x00 ∷ 0x00 ∷ 0x04 ∷ 0x00 ∷ 0x1B ∷ 0x00 ∷ 0x00 ∷ 0x00 ∷ 0x01 ∷ 0x01 ∷ 0x01 ∷ 0xFB ∷ 0x0E ∷ 0x0D ∷ 0x00 ∷ 0x01 ∷ 0x01 ∷ 0x01 ∷ 0x01 ∷ 0x00 ∷ 0x00 ∷ 0x00 ∷ 0x01 ∷ 0x00 ∷ 0x00 ∷ 0x01 ∷ 0x00 ∷ 0x61 ∷ 0x2E ∷ 0x63 ∷ 0x00 ∷ 0x00 ∷ 0x00 ∷ 0x00 ∷ 0x00 ∷ 0x00 ∷ 0x05 ∷ 0x02 ∷ 0x02 ∷ 0x00 ∷ 0x00 ∷ 0x00 ∷ 0x01 ∷ 0x4B ∷ 0x08 ∷ 0x4B ∷ 0x02 ∷ 0x03 ∷ 0x00 ∷ 0x01 ∷ 0x01 ∷ []

special : segments_read (line_table (three_sections [] [] program_special) 4 8 0) ≡ record { start = Constant 2; rows = at_line 0 1 ∷ at_line 4 2 ∷ at_line 25 3 ∷ []; end = Some 28 } ∷ []
unfolding lines_on_literals
special = refl

-- fixed_advance_pc 7, set_prologue_end, an unknown extended opcode that is passed, and a row
abbrev pub program_fixed_and_unknown : List ℕ
program_fixed_and_unknown = 0x34 ∷ 0x00 ∷ 0x00 ∷ 0x00 ∷ 0x04 ∷ 0x00 ∷ 0x1B ∷ 0x00 ∷ 0x00 ∷ 0x00 ∷ 0x01 ∷ 0x01 ∷ 0x01 ∷ 0xFB ∷ 0x0E ∷ 0x0D ∷ 0x00 ∷ 0x01 ∷ 0x01 ∷ 0x01 ∷ 0x01 ∷ 0x00 ∷ 0x00 ∷ 0x00 ∷ 0x01 ∷ 0x00 ∷ 0x00 ∷ 0x01 ∷ 0x00 ∷ 0x61 ∷ 0x2E ∷ 0x63 ∷ 0x00 ∷ 0x00 ∷ 0x00 ∷ 0x00 ∷ 0x00 ∷ 0x00 ∷ 0x05 ∷ 0x02 ∷ 0x02 ∷ 0x00 ∷ 0x00 ∷ 0x00 ∷ 0x09 ∷ 0x07 ∷ 0x00 ∷ 0x0A ∷ 0x00 ∷ 0x02 ∷ 0x80 ∷ 0x05 ∷ 0x01 ∷ 0x00 ∷ 0x01 ∷ 0x01 ∷ []

fixed-and-unknown : segments_read (line_table (three_sections [] [] program_fixed_and_unknown) 4 8 0) ≡ record { start = Constant 2; rows = record { offset = 7; source = record { file = Some a_c; line = 1; column = 0; is_stmt = true; basic_block = false; prologue_end = true; epilogue_begin = false; isa = 0; discriminator = 0 } } ∷ []; end = Some 7 } ∷ []
unfolding lines_on_literals
fixed-and-unknown = refl

-- a row at line -1 is outside the grammar
abbrev pub program_below_line_0 : List ℕ
program_below_line_0 = 0x2E ∷ 0x00 ∷ 0x00 ∷ 0x00 ∷ 0x04 ∷ 0x00 ∷ 0x1B ∷ 0x00 ∷ 0x00 ∷ 0x00 ∷ 0x01 ∷ 0x01 ∷ 0x01 ∷ 0xFB ∷ 0x0E ∷ 0x0D ∷ 0x00 ∷ 0x01 ∷ 0x01 ∷ 0x01 ∷ 0x01 ∷ 0x00 ∷ 0x00 ∷ 0x00 ∷ 0x01 ∷ 0x00 ∷ 0x00 ∷ 0x01 ∷ 0x00 ∷ 0x61 ∷ 0x2E ∷ 0x63 ∷ 0x00 ∷ 0x00 ∷ 0x00 ∷ 0x00 ∷ 0x00 ∷ 0x00 ∷ 0x05 ∷ 0x02 ∷ 0x02 ∷ 0x00 ∷ 0x00 ∷ 0x00 ∷ 0x03 ∷ 0x7E ∷ 0x01 ∷ 0x00 ∷ 0x01 ∷ 0x01 ∷ []

below-line-0 : segments_read (line_table (three_sections [] [] program_below_line_0) 4 8 0) ≡ []
unfolding lines_on_literals
below-line-0 = refl

-- the line may be below 0 between rows
abbrev pub program_back_to_line_1 : List ℕ
program_back_to_line_1 = 0x30 ∷ 0x00 ∷ 0x00 ∷ 0x00 ∷ 0x04 ∷ 0x00 ∷ 0x1B ∷ 0x00 ∷ 0x00 ∷ 0x00 ∷ 0x01 ∷ 0x01 ∷ 0x01 ∷ 0xFB ∷ 0x0E ∷ 0x0D ∷ 0x00 ∷ 0x01 ∷ 0x01 ∷ 0x01 ∷ 0x01 ∷ 0x00 ∷ 0x00 ∷ 0x00 ∷ 0x01 ∷ 0x00 ∷ 0x00 ∷ 0x01 ∷ 0x00 ∷ 0x61 ∷ 0x2E ∷ 0x63 ∷ 0x00 ∷ 0x00 ∷ 0x00 ∷ 0x00 ∷ 0x00 ∷ 0x00 ∷ 0x05 ∷ 0x02 ∷ 0x02 ∷ 0x00 ∷ 0x00 ∷ 0x00 ∷ 0x03 ∷ 0x7E ∷ 0x03 ∷ 0x02 ∷ 0x01 ∷ 0x00 ∷ 0x01 ∷ 0x01 ∷ []

back-to-line-1 : segments_read (line_table (three_sections [] [] program_back_to_line_1) 4 8 0) ≡ record { start = Constant 2; rows = at_line 0 1 ∷ []; end = Some 0 } ∷ []
unfolding lines_on_literals
back-to-line-1 = refl

-- define_file adds file 2
abbrev pub program_defined_file : List ℕ
program_defined_file = 0x36 ∷ 0x00 ∷ 0x00 ∷ 0x00 ∷ 0x04 ∷ 0x00 ∷ 0x1B ∷ 0x00 ∷ 0x00 ∷ 0x00 ∷ 0x01 ∷ 0x01 ∷ 0x01 ∷ 0xFB ∷ 0x0E ∷ 0x0D ∷ 0x00 ∷ 0x01 ∷ 0x01 ∷ 0x01 ∷ 0x01 ∷ 0x00 ∷ 0x00 ∷ 0x00 ∷ 0x01 ∷ 0x00 ∷ 0x00 ∷ 0x01 ∷ 0x00 ∷ 0x61 ∷ 0x2E ∷ 0x63 ∷ 0x00 ∷ 0x00 ∷ 0x00 ∷ 0x00 ∷ 0x00 ∷ 0x00 ∷ 0x05 ∷ 0x02 ∷ 0x02 ∷ 0x00 ∷ 0x00 ∷ 0x00 ∷ 0x00 ∷ 0x06 ∷ 0x03 ∷ 0x62 ∷ 0x00 ∷ 0x00 ∷ 0x00 ∷ 0x00 ∷ 0x04 ∷ 0x02 ∷ 0x01 ∷ 0x00 ∷ 0x01 ∷ 0x01 ∷ []

defined-file : segments_read (line_table (three_sections [] [] program_defined_file) 4 8 0) ≡ record { start = Constant 2; rows = record { offset = 0; source = record (line_of_a_c 1) { file = Some (record { directory = None; name = 98 ∷ [] }) } } ∷ []; end = Some 0 } ∷ []
unfolding lines_on_literals
defined-file = refl

-- file 9 is not there
abbrev pub program_no_file : List ℕ
program_no_file = 0x2E ∷ 0x00 ∷ 0x00 ∷ 0x00 ∷ 0x04 ∷ 0x00 ∷ 0x1B ∷ 0x00 ∷ 0x00 ∷ 0x00 ∷ 0x01 ∷ 0x01 ∷ 0x01 ∷ 0xFB ∷ 0x0E ∷ 0x0D ∷ 0x00 ∷ 0x01 ∷ 0x01 ∷ 0x01 ∷ 0x01 ∷ 0x00 ∷ 0x00 ∷ 0x00 ∷ 0x01 ∷ 0x00 ∷ 0x00 ∷ 0x01 ∷ 0x00 ∷ 0x61 ∷ 0x2E ∷ 0x63 ∷ 0x00 ∷ 0x00 ∷ 0x00 ∷ 0x00 ∷ 0x00 ∷ 0x00 ∷ 0x05 ∷ 0x02 ∷ 0x02 ∷ 0x00 ∷ 0x00 ∷ 0x00 ∷ 0x04 ∷ 0x09 ∷ 0x01 ∷ 0x00 ∷ 0x01 ∷ 0x01 ∷ []

no-file : segments_read (line_table (three_sections [] [] program_no_file) 4 8 0) ≡ record { start = Constant 2; rows = record { offset = 0; source = record (line_of_a_c 1) { file = None } } ∷ []; end = Some 0 } ∷ []
unfolding lines_on_literals
no-file = refl

-- a piece that nothing ends is no segment
abbrev pub program_no_end : List ℕ
program_no_end = 0x29 ∷ 0x00 ∷ 0x00 ∷ 0x00 ∷ 0x04 ∷ 0x00 ∷ 0x1B ∷ 0x00 ∷ 0x00 ∷ 0x00 ∷ 0x01 ∷ 0x01 ∷ 0x01 ∷ 0xFB ∷ 0x0E ∷ 0x0D ∷ 0x00 ∷ 0x01 ∷ 0x01 ∷ 0x01 ∷ 0x01 ∷ 0x00 ∷ 0x00 ∷ 0x00 ∷ 0x01 ∷ 0x00 ∷ 0x00 ∷ 0x01 ∷ 0x00 ∷ 0x61 ∷ 0x2E ∷ 0x63 ∷ 0x00 ∷ 0x00 ∷ 0x00 ∷ 0x00 ∷ 0x00 ∷ 0x00 ∷ 0x05 ∷ 0x02 ∷ 0x02 ∷ 0x00 ∷ 0x00 ∷ 0x00 ∷ 0x01 ∷ []

no-end : segments_read (line_table (three_sections [] [] program_no_end) 4 8 0) ≡ []
unfolding lines_on_literals
no-end = refl

-- a piece without rows is none
abbrev pub program_no_rows : List ℕ
program_no_rows = 0x2B ∷ 0x00 ∷ 0x00 ∷ 0x00 ∷ 0x04 ∷ 0x00 ∷ 0x1B ∷ 0x00 ∷ 0x00 ∷ 0x00 ∷ 0x01 ∷ 0x01 ∷ 0x01 ∷ 0xFB ∷ 0x0E ∷ 0x0D ∷ 0x00 ∷ 0x01 ∷ 0x01 ∷ 0x01 ∷ 0x01 ∷ 0x00 ∷ 0x00 ∷ 0x00 ∷ 0x01 ∷ 0x00 ∷ 0x00 ∷ 0x01 ∷ 0x00 ∷ 0x61 ∷ 0x2E ∷ 0x63 ∷ 0x00 ∷ 0x00 ∷ 0x00 ∷ 0x00 ∷ 0x00 ∷ 0x00 ∷ 0x05 ∷ 0x02 ∷ 0x02 ∷ 0x00 ∷ 0x00 ∷ 0x00 ∷ 0x00 ∷ 0x01 ∷ 0x01 ∷ []

no-rows : segments_read (line_table (three_sections [] [] program_no_rows) 4 8 0) ≡ []
unfolding lines_on_literals
no-rows = refl

-- an end at 2 ^ 32 - 1
abbrev pub program_long_way : List ℕ
program_long_way = 0x32 ∷ 0x00 ∷ 0x00 ∷ 0x00 ∷ 0x04 ∷ 0x00 ∷ 0x1B ∷ 0x00 ∷ 0x00 ∷ 0x00 ∷ 0x01 ∷ 0x01 ∷ 0x01 ∷ 0xFB ∷ 0x0E ∷ 0x0D ∷ 0x00 ∷ 0x01 ∷ 0x01 ∷ 0x01 ∷ 0x01 ∷ 0x00 ∷ 0x00 ∷ 0x00 ∷ 0x01 ∷ 0x00 ∷ 0x00 ∷ 0x01 ∷ 0x00 ∷ 0x61 ∷ 0x2E ∷ 0x63 ∷ 0x00 ∷ 0x00 ∷ 0x00 ∷ 0x00 ∷ 0x00 ∷ 0x00 ∷ 0x05 ∷ 0x02 ∷ 0x02 ∷ 0x00 ∷ 0x00 ∷ 0x00 ∷ 0x01 ∷ 0x02 ∷ 0xFF ∷ 0xFF ∷ 0xFF ∷ 0xFF ∷ 0x0F ∷ 0x00 ∷ 0x01 ∷ 0x01 ∷ []

long-way : segments_read (line_table (three_sections [] [] program_long_way) 4 8 0) ≡ record { start = Constant 2; rows = at_line 0 1 ∷ []; end = Some 4294967295 } ∷ []
unfolding lines_on_literals
long-way = refl

-- an end above 2 ^ 32 - 1 is none
abbrev pub program_too_long : List ℕ
program_too_long = 0x32 ∷ 0x00 ∷ 0x00 ∷ 0x00 ∷ 0x04 ∷ 0x00 ∷ 0x1B ∷ 0x00 ∷ 0x00 ∷ 0x00 ∷ 0x01 ∷ 0x01 ∷ 0x01 ∷ 0xFB ∷ 0x0E ∷ 0x0D ∷ 0x00 ∷ 0x01 ∷ 0x01 ∷ 0x01 ∷ 0x01 ∷ 0x00 ∷ 0x00 ∷ 0x00 ∷ 0x01 ∷ 0x00 ∷ 0x00 ∷ 0x01 ∷ 0x00 ∷ 0x61 ∷ 0x2E ∷ 0x63 ∷ 0x00 ∷ 0x00 ∷ 0x00 ∷ 0x00 ∷ 0x00 ∷ 0x00 ∷ 0x05 ∷ 0x02 ∷ 0x02 ∷ 0x00 ∷ 0x00 ∷ 0x00 ∷ 0x01 ∷ 0x02 ∷ 0x80 ∷ 0x80 ∷ 0x80 ∷ 0x80 ∷ 0x10 ∷ 0x00 ∷ 0x01 ∷ 0x01 ∷ []

too-long : segments_read (line_table (three_sections [] [] program_too_long) 4 8 0) ≡ record { start = Constant 2; rows = at_line 0 1 ∷ []; end = None } ∷ []
unfolding lines_on_literals
too-long = refl

-- an extended instruction of length 0, and operands that do not fit
empty-extended : line_table (three_sections [] [] (0x23 ∷ 0x00 ∷ 0x00 ∷ 0x00 ∷ 0x04 ∷ 0x00 ∷ 0x1B ∷ 0x00 ∷ 0x00 ∷ 0x00 ∷ 0x01 ∷ 0x01 ∷ 0x01 ∷ 0xFB ∷ 0x0E ∷ 0x0D ∷ 0x00 ∷ 0x01 ∷ 0x01 ∷ 0x01 ∷ 0x01 ∷ 0x00 ∷ 0x00 ∷ 0x00 ∷ 0x01 ∷ 0x00 ∷ 0x00 ∷ 0x01 ∷ 0x00 ∷ 0x61 ∷ 0x2E ∷ 0x63 ∷ 0x00 ∷ 0x00 ∷ 0x00 ∷ 0x00 ∷ 0x00 ∷ 0x00 ∷ 0x00 ∷ [])) 4 8 0 ≡ Err (unreadable LineTableRead Line 0)
unfolding lines_on_literals
empty-extended = refl

short-address : line_table (three_sections [] [] (0x26 ∷ 0x00 ∷ 0x00 ∷ 0x00 ∷ 0x04 ∷ 0x00 ∷ 0x1B ∷ 0x00 ∷ 0x00 ∷ 0x00 ∷ 0x01 ∷ 0x01 ∷ 0x01 ∷ 0xFB ∷ 0x0E ∷ 0x0D ∷ 0x00 ∷ 0x01 ∷ 0x01 ∷ 0x01 ∷ 0x01 ∷ 0x00 ∷ 0x00 ∷ 0x00 ∷ 0x01 ∷ 0x00 ∷ 0x00 ∷ 0x01 ∷ 0x00 ∷ 0x61 ∷ 0x2E ∷ 0x63 ∷ 0x00 ∷ 0x00 ∷ 0x00 ∷ 0x00 ∷ 0x00 ∷ 0x00 ∷ 0x03 ∷ 0x02 ∷ 0x01 ∷ 0x02 ∷ [])) 4 8 0 ≡ Err (unreadable LineTableRead Line 0)
unfolding lines_on_literals
short-address = refl

-- several operations in one instruction
several-operations : line_table (three_sections [] [] (0x21 ∷ 0x00 ∷ 0x00 ∷ 0x00 ∷ 0x04 ∷ 0x00 ∷ 0x1B ∷ 0x00 ∷ 0x00 ∷ 0x00 ∷ 0x01 ∷ 0x02 ∷ 0x01 ∷ 0xFB ∷ 0x0E ∷ 0x0D ∷ 0x00 ∷ 0x01 ∷ 0x01 ∷ 0x01 ∷ 0x01 ∷ 0x00 ∷ 0x00 ∷ 0x00 ∷ 0x01 ∷ 0x00 ∷ 0x00 ∷ 0x01 ∷ 0x00 ∷ 0x61 ∷ 0x2E ∷ 0x63 ∷ 0x00 ∷ 0x00 ∷ 0x00 ∷ 0x00 ∷ 0x00 ∷ [])) 4 8 0 ≡ Err (unsupported Operations 0)
unfolding lines_on_literals
several-operations = refl

-- ---- files

abbrev pub is_file : Result WasmModule ℕ → Result ℕ ℕ
is_file (Ok m) = Ok m.imported
is_file (Err place) = Err place

-- a preamble alone
empty-file : is_file (wasm_module (0x00 ∷ 0x61 ∷ 0x73 ∷ 0x6D ∷ 0x01 ∷ 0x00 ∷ 0x00 ∷ 0x00 ∷ [])) ≡ Ok 0
unfolding files_on_literals
empty-file = refl

-- another version
other-version : is_file (wasm_module (0x00 ∷ 0x61 ∷ 0x73 ∷ 0x6D ∷ 0x0D ∷ [])) ≡ Err 0
unfolding files_on_literals
other-version = refl

-- an id without a size
no-size : is_file (wasm_module (0x00 ∷ 0x61 ∷ 0x73 ∷ 0x6D ∷ 0x01 ∷ 0x00 ∷ 0x00 ∷ 0x00 ∷ 0x01 ∷ [])) ≡ Err 9
unfolding files_on_literals
no-size = refl

-- a section that passes the file
past-file : is_file (wasm_module (0x00 ∷ 0x61 ∷ 0x73 ∷ 0x6D ∷ 0x01 ∷ 0x00 ∷ 0x00 ∷ 0x00 ∷ 0x01 ∷ 0x02 ∷ 0x00 ∷ [])) ≡ Err 9
unfolding files_on_literals
past-file = refl

-- a byte behind the last type number
left-over : is_file (wasm_module (0x00 ∷ 0x61 ∷ 0x73 ∷ 0x6D ∷ 0x01 ∷ 0x00 ∷ 0x00 ∷ 0x00 ∷ 0x03 ∷ 0x03 ∷ 0x01 ∷ 0x00 ∷ 0x07 ∷ [])) ≡ Err 12
unfolding files_on_literals
left-over = refl

-- a section that ends before the greatest size of its limits: the place is where that number would stand
import-cut : is_file (wasm_module (0x00 ∷ 0x61 ∷ 0x73 ∷ 0x6D ∷ 0x01 ∷ 0x00 ∷ 0x00 ∷ 0x00 ∷ 0x02 ∷ 0x0F ∷ 0x02 ∷ 0x01 ∷ 0x61 ∷ 0x01 ∷ 0x62 ∷ 0x00 ∷ 0x07 ∷ 0x01 ∷ 0x61 ∷ 0x01 ∷ 0x63 ∷ 0x01 ∷ 0x70 ∷ 0x01 ∷ 0x02 ∷ 0x03 ∷ [])) ≡ Err 25
unfolding files_on_literals
import-cut = refl

-- a function and a table with both limits
imports : is_file (wasm_module (0x00 ∷ 0x61 ∷ 0x73 ∷ 0x6D ∷ 0x01 ∷ 0x00 ∷ 0x00 ∷ 0x00 ∷ 0x02 ∷ 0x10 ∷ 0x02 ∷ 0x01 ∷ 0x61 ∷ 0x01 ∷ 0x62 ∷ 0x00 ∷ 0x07 ∷ 0x01 ∷ 0x61 ∷ 0x01 ∷ 0x63 ∷ 0x01 ∷ 0x70 ∷ 0x01 ∷ 0x02 ∷ 0x03 ∷ [])) ≡ Ok 1
unfolding files_on_literals
imports = refl

-- an import of kind 5
bad-kind : is_file (wasm_module (0x00 ∷ 0x61 ∷ 0x73 ∷ 0x6D ∷ 0x01 ∷ 0x00 ∷ 0x00 ∷ 0x00 ∷ 0x02 ∷ 0x07 ∷ 0x01 ∷ 0x01 ∷ 0x61 ∷ 0x01 ∷ 0x62 ∷ 0x05 ∷ 0x07 ∷ [])) ≡ Err 15
unfolding files_on_literals
bad-kind = refl

-- a custom section whose name is not UTF-8
bad-name : is_file (wasm_module (0x00 ∷ 0x61 ∷ 0x73 ∷ 0x6D ∷ 0x01 ∷ 0x00 ∷ 0x00 ∷ 0x00 ∷ 0x00 ∷ 0x02 ∷ 0x01 ∷ 0xFF ∷ [])) ≡ Err 10
unfolding files_on_literals
bad-name = refl

-- ---- kept entries

abbrev pub placed : ℕ → ℕ → ℕ → List (ℕ × Value) → Placed
placed offset depth tag attributes = record { unit = 0; entry = record { offset = offset; depth = depth; tag = tag; attributes = attributes } }

abbrev pub some_function : Function
some_function = record { output = Default; number = 0; symbol = Some 0; start = 2; end = 13; length = 30; entries = [] }

-- a root, a subprogram with a formal parameter of a type, that type, and one that nothing names
abbrev pub tree : List Placed
tree = placed 11 0 0x11 [] ∷ placed 16 1 0x2E ((0x11, Rattle.dwc_dwarf.specs.Values.address (Constant 2)) ∷ []) ∷ placed 21 2 0x05 ((0x49, unit_reference 30) ∷ []) ∷ placed 30 1 0x24 [] ∷ placed 35 1 0x24 [] ∷ []

abbrev pub kept_offsets : List Function → List ℕ
kept_offsets fs = map (λ p. p.entry.offset) (kept_with tree (filter (λ p. is_required fs (three_sections [] [] []) header_small p.entry) tree))

kept-tree : kept_offsets (some_function ∷ []) ≡ 11 ∷ 16 ∷ 21 ∷ 30 ∷ []
unfolding drafts_on_literals
kept-tree = refl

-- without a function nothing is kept
kept-nothing : kept_offsets [] ≡ []
unfolding drafts_on_literals
kept-nothing = refl
