-- Fields of an output: their places, and what they hold. (DWARF 4, sections 7.5.1.1 and 7.5.4; DWARF 5, the same sections, and section 7.26.)
use Rattle.std.specs.Prelude.{ℕ, List, [], ◌∷◌, nat_lt, if◌then◌else◌, Option, Some, None, option_map, Result, Ok, Err}
use Rattle.dwc_base.specs.declared.records.Address.{Address}
use Rattle.dwc_base.specs.declared.section_name.SectionName.{SectionName}
use Rattle.dwc_base.specs.declared.section_name.SectionName.TheVariants.{Info, Line, LineStr, Loc, Loclists, Ranges, Rnglists, Str}
use Rattle.dwc_base.specs.declared.constants.TheConstants.{DW_FORM_line_strp, DW_FORM_strp}
use Rattle.dwc_base.specs.Reading.{coded}
use Rattle.dwc_base.specs.Units.{UnitHeader}
use Rattle.dwc_dwarf.specs.Values.{Value, address, text_reference, line_reference, range_reference, location_reference, info_reference}

-- what a field holds: an address, or an offset in a section
pub data Held : Type 0 where
  an_address : Address → Held
  offset_in : SectionName → ℕ → Held

-- a field: its offset in its section, its size, and what it holds
pub record Field : Type 0 where
  pub offset : ℕ
  pub size : ℕ
  pub held : Held

-- what could be read, nothing where it could not
abbrev pub fields_read : {E : Type 0} → Result (List Field) E → List Field
fields_read (Ok fields) = fields
fields_read (Err flaw) = []

-- the section that a form gives the offset of a text in
abbrev pub section_of_text : ℕ → Option SectionName
section_of_text form = coded ((DW_FORM_strp, Str) ∷ (DW_FORM_line_strp, LineStr) ∷ []) form

-- The section of range lists and that of location lists changed with version 5.
abbrev pub section_of_ranges : ℕ → SectionName
section_of_ranges version = if nat_lt version 5 then Ranges else Rnglists

abbrev pub section_of_locations : ℕ → SectionName
section_of_locations version = if nat_lt version 5 then Loc else Loclists

-- What a value holds in a field of a unit; none for any other value.
abbrev pub held_by : UnitHeader → Value → Option Held
held_by h (address a) = Some (an_address a)
held_by h (text_reference form n) = option_map (λ name. offset_in name n) (section_of_text form)
held_by h (line_reference n) = Some (offset_in Line n)
held_by h (range_reference n) = Some (offset_in (section_of_ranges h.version) n)
held_by h (location_reference n) = Some (offset_in (section_of_locations h.version) n)
held_by h (info_reference n) = Some (offset_in Info n)
held_by h _ = None

-- the address at a place
abbrev pub field_of_address : ℕ → ℕ → Address → Field
field_of_address size place a = record { offset = place; size = size; held = an_address a }
