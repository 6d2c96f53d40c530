-- The fields of an output that a linker may change: addresses, and offsets in sections, as a reader comes upon them, and the
-- relocations of them. (DWARF 4, sections 7.5.1.1, 7.5.4 and 6.2.5.3; DWARF 5, the same sections, and section 7.26.)
use Rattle.std.specs.Prelude.{◌≡◌, ◌≤◌, ℕ, ◌+◌, ◌==◌, pos, true, false, Bool, List, [], ◌∷◌, ◌++◌, length, map, nat_lt, if◌then◌else◌, Option, Some, None, Result, Ok, Err, All, AllPairs}
use Rattle.std.specs.List.{flat_map, filter_map}
use Rattle.dwc_base.specs.declared.records.Endian.{Endian}
use Rattle.dwc_base.specs.declared.records.Address.TheVariants.{Constant, Symbol}
use Rattle.dwc_base.specs.declared.section_name.SectionName.{SectionName}
use Rattle.dwc_base.specs.declared.section_name.SectionName.TheVariants.{Abbrev, Info, Line, Loc, Loclists, Ranges, Rnglists}
use Rattle.dwc_base.specs.declared.faults.Flaw.{Flaw}
use Rattle.dwc_base.specs.declared.faults.Flaw.TheVariants.{Malformed}
use Rattle.dwc_base.specs.declared.constants.TheConstants.{DW_AT_stmt_list}
use Rattle.dwc_base.specs.Reading.{Unread, ◌>>=◌, passed, uleb_at}
use Rattle.dwc_base.specs.Sections.{Sections, Relocation, section_from, section_text}
use Rattle.dwc_base.specs.Abbreviations.{AttributeSpec, Declaration, declaration_of, abbreviation_table}
use Rattle.dwc_base.specs.Units.{UnitHeader}
use Rattle.dwc_dwarf.specs.Values.{Value, address, info_reference, form_code_at, value_at}
use Rattle.dwc_dwarf.specs.Entries.{Entry, attribute}
use Rattle.dwc_dwarf.specs.Indexed.{text_base}
use Rattle.dwc_dwarf.specs.RawLists.{ListSource, ListPlace, list_named, is_location_list, is_range_list, RawEntry, pair, base_selection, raw_ranges, PlacedExpression, RawLocation, raw_locations}
use Rattle.dwc_dwarf.specs.Lists.{list_source}
use Rattle.dwc_dwarf.specs.LineHeaders.{LineHeader, line_source, Instruction, set_address, line_header_at, instruction_at, instructions}
use Rattle.dwc_dwarf.specs.ReadUnits.{Unit, units, root, line_offset}
pub use Rattle.dwc_output.specs.FieldKinds.{Held, an_address, offset_in, Field, fields_read, section_of_text, section_of_ranges, section_of_locations, held_by, field_of_address}
use Rattle.dwc_output.specs.NewListFields.{new_lists_of_unit}
use Rattle.dwc_output.specs.PathFields.{paths_of_line_table}
use Rattle.dwc_base.specs.Outputs.{OutputRelocation, function, section, OutputSection, output_sections}

-- A reference to another unit has an address's size in version 2.
abbrev pub field_size : UnitHeader → Value → ℕ
field_size h (address a) = h.address_size
field_size h (info_reference n) = if h.version == 2 then h.address_size else 4
field_size h _ = 4

-- the field of a value that stands at a place
abbrev pub field_of_value : UnitHeader → ℕ → Value → List Field
field_of_value h place v = elim (held_by h v) [ None ↦ [] | Some held ↦ record { offset = place; size = field_size h v; held = held } ∷ [] ]

-- the fields among the values of a declaration's attributes, each behind the code of its form where that stands there
unfoldable pub fields_at : Sections → UnitHeader → List AttributeSpec → Unread → Result (List Field) Flaw
fields_at s h [] u = Ok []
fields_at s h (spec ∷ specs) u = do
  code ← form_code_at spec u
  value ← value_at s h spec u
  others ← fields_at s h specs value.1
  Ok (field_of_value h code.1.place value.0 ++ others)

-- the fields of an entry of a unit, which stands at its offset
unfoldable pub fields_of_entry : Sections → UnitHeader → List Declaration → Entry → Result (List Field) Flaw
fields_of_entry s h table e = do
  code ← uleb_at (section_from s Info e.offset)
  elim (declaration_of code.0 table) [ None ↦ Err Malformed | Some d ↦ fields_at s h d.attributes code.1 ]

-- the offset of the abbreviation table in a unit's header: behind the length and the version, and from version 5 on also
-- behind the unit's type and address size
abbrev pub field_of_table : UnitHeader → Field
field_of_table h = record { offset = h.offset + (if nat_lt h.version 5 then 6 else 8); size = 4; held = offset_in Abbrev h.abbreviations }

-- the fields of some entries of a unit
abbrev pub fields_of_entries : Sections → UnitHeader → List Entry → List Field
fields_of_entries s h es = elim (abbreviation_table s h.abbreviations) [ Err fault ↦ [] | Ok table ↦ flat_map (λ e. fields_read (fields_of_entry s h table e)) es ]

-- the fields of a unit
abbrev pub fields_of_unit : Sections → Unit → List Field
fields_of_unit s u = field_of_table u.header ∷ fields_of_entries s u.header u.entries

-- ---- .debug_line: the names of version 5, which may stand elsewhere, and the addresses of the program

-- the operand of DW_LNE_set_address, behind a zero, the length and the opcode
abbrev pub field_of_instruction : LineHeader → Unread → Instruction → List Field
field_of_instruction h u (set_address a) = elim (uleb_at (passed 1 u)) [ Err flaw ↦ [] | Ok size ↦ record { offset = size.1.place + 1; size = h.address_size; held = an_address a } ∷ [] ]
field_of_instruction h u _ = []

-- the fields of instructions that were read, the first of which stands at the front
unfoldable pub fields_of_instructions : List Relocation → LineHeader → List Instruction → Unread → List Field
fields_of_instructions relocations h [] u = []
fields_of_instructions relocations h (i ∷ is) u =
    field_of_instruction h u i ++ elim (instruction_at relocations h u) [ Err flaw ↦ [] | Ok read ↦ fields_of_instructions relocations h is read.1 ]

-- the fields of the line table at an offset, for a unit of an address size, whose texts by an index begin at a base
unfoldable pub fields_of_line_table : Sections → ℕ → ℕ → ℕ → Result (List Field) Flaw
fields_of_line_table s address_size base offset = do
  h ← line_header_at (line_source s base) address_size (section_from s Line offset)
  paths ← paths_of_line_table s address_size base offset
  Ok (paths ++ fields_of_instructions (s.relocations Line) h (instructions (s.relocations Line) h h.program).items h.program)

-- the fields of the line table that an entry names, if it names one
abbrev pub fields_of_lines : Sections → UnitHeader → Option Entry → List Field
fields_of_lines s h None = []
fields_of_lines s h (Some e) = elim (line_offset (attribute DW_AT_stmt_list e)) [ None ↦ [] | Some offset ↦ fields_read (fields_of_line_table s h.address_size (text_base s h) offset) ]

-- ---- .debug_ranges and .debug_loc: lists up to version 4 are pairs of addresses, in a location list each with an expression behind the
-- expression's length (DWARF 4, sections 2.17.3 and 2.6.2)

-- the addresses of an entry at a place; of one that selects a base the first is all ones
abbrev pub fields_of_pair : ℕ → ℕ → RawEntry → List Field
fields_of_pair size place (pair begin end) = field_of_address size place begin ∷ field_of_address size (place + size) end ∷ []
fields_of_pair size place (base_selection a) = field_of_address size (place + size) a ∷ []
fields_of_pair size place _ = []

-- an entry of a range list has no expression
abbrev pub without_expression : RawEntry → RawLocation
without_expression e = record { says = e; holds = None }

-- how many bytes an expression takes with its length
abbrev pub held_bytes : Option PlacedExpression → ℕ
held_bytes None = 0
held_bytes (Some x) = 2 + length x.bytes

-- entries one behind another, of which the first stands at a place
abbrev pub fields_of_listed : ℕ → ℕ → List RawLocation → List Field
fields_of_listed size place [] = []
fields_of_listed size place (l ∷ ls) = fields_of_pair size place l.says ++ fields_of_listed size (place + ((size + size) + held_bytes l.holds)) ls

-- those of the list at a place, if it stands in one of these sections
abbrev pub fields_of_list : ListSource → ListPlace → SectionName → List Field
fields_of_list source l Ranges = fields_of_listed source.address_size l.offset (map without_expression (raw_ranges source l).items)
fields_of_list source l Loc = fields_of_listed source.address_size l.offset (raw_locations source l).items
fields_of_list source l _ = []

-- those of the list that a value of a unit names, if it names one and is of a kind
unfoldable pub fields_of_named : (Value → Bool) → Sections → UnitHeader → Value → List Field
fields_of_named kind s h v = elim (kind v) [ false ↦ [] | true ↦ go (list_named (list_source s h) v) ]
  where
    go : Option (Result ListPlace Flaw) → List Field
    go (Some (Ok l)) = fields_of_list (list_source s h) l l.section
    go _ = []

-- the same of an entry
abbrev pub fields_of_lists : (Value → Bool) → Sections → UnitHeader → Entry → List Field
fields_of_lists kind s h e = flat_map (λ a. fields_of_named kind s h a.1) e.attributes

-- and of a unit
abbrev pub lists_of_unit : (Value → Bool) → Sections → Unit → List Field
lists_of_unit kind s u = flat_map (fields_of_lists kind s u.header) u.entries

-- ---- their relocations

-- The fields of a section, in the order of the units; those of line tables by the units whose roots name them, those of lists by the
-- entries that name them.
unfoldable pub fields_of_section : Sections → SectionName → List Field
fields_of_section s Info = flat_map (fields_of_unit s) (units s).items
fields_of_section s Line = flat_map (λ u. fields_of_lines s u.header (root u)) (units s).items
fields_of_section s Ranges = flat_map (lists_of_unit is_range_list s) (units s).items
fields_of_section s Loc = flat_map (lists_of_unit is_location_list s) (units s).items
fields_of_section s Rnglists = flat_map (new_lists_of_unit is_range_list s) (units s).items
fields_of_section s Loclists = flat_map (new_lists_of_unit is_location_list s) (units s).items
fields_of_section s name = []

-- the relocation of a field at an offset: none of an address that is a number
abbrev pub relocation_of : ℕ → ℕ → Held → Option OutputRelocation
relocation_of offset size (an_address (Constant n)) = None
relocation_of offset size (an_address (Symbol symbol addend)) = Some (record { offset = offset; size = size; target = function symbol; addend = addend })
relocation_of offset size (offset_in name n) = Some (record { offset = offset; size = size; target = section (section_text name); addend = pos n })

-- the relocations of some fields
abbrev pub relocations_of_fields : List Field → List OutputRelocation
relocations_of_fields fields = filter_map (λ f. relocation_of f.offset f.size f.held) fields

-- The relocations of a section of an output, which is read as some sections, are those of its fields, and stand one behind
-- another.
pub record IsRelocated (s : Sections) (t : OutputSection) : Type 0 where
  pub name : SectionName
  pub named : t.name ≡ section_text name
  pub fields : t.relocations ≡ relocations_of_fields (fields_of_section s name)
  pub rising : AllPairs (λ a b. a.offset + a.size ≤ b.offset) t.relocations

-- Each field of an output that holds an offset in a section, or the address of a function, has its relocation, and there are no
-- others.
abbrev pub AreRelocated : Endian → List OutputSection → Type 0
AreRelocated order sections = All (IsRelocated (output_sections order sections)) sections
