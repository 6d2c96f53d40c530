-- Where the text of a value stands, if it stands elsewhere. (DWARF 5, sections 7.5.5 and 7.26.)
use Rattle.std.specs.Prelude.{ℕ, List, [], ◌∷◌, Option, Some, None, Result, Ok}
use Rattle.dwc_base.specs.declared.faults.Flaw.{Flaw}
use Rattle.dwc_base.specs.declared.faults.What.TheVariants.{Text}
use Rattle.dwc_base.specs.declared.constants.TheConstants.{DW_FORM_line_strp, DW_FORM_strp}
use Rattle.dwc_base.specs.declared.section_name.SectionName.{SectionName}
use Rattle.dwc_base.specs.declared.section_name.SectionName.TheVariants.{Info, LineStr, Str}
use Rattle.dwc_base.specs.Reading.{◌>>=◌, coded}
use Rattle.dwc_base.specs.Sections.{Sections, Fault, reported}
use Rattle.dwc_base.specs.Units.{UnitHeader}
use Rattle.dwc_dwarf.specs.Values.{Value, text_reference}
use Rattle.dwc_dwarf.specs.Texts.{TextSource, offset_of_text, text_in}
use Rattle.dwc_dwarf.specs.Indexed.{texts_of_unit}
use Rattle.dwc_read.specs.declared.text_place.TextPlace.{TextPlace}

-- the section that a form gives an offset in; the other forms of a text elsewhere give an index
abbrev pub section_of_form : ℕ → Option SectionName
section_of_form form = coded ((DW_FORM_strp, Str) ∷ (DW_FORM_line_strp, LineStr) ∷ []) form

-- where the text stands that a number of a form names
unfoldable pub place_elsewhere : TextSource → ℕ → ℕ → Result TextPlace Flaw
place_elsewhere s form n = elim (section_of_form form) [
  | Some section ↦ Ok (record { section = section; offset = n })
  | None ↦ (offset_of_text s n >>= λ offset. Ok (record { section = Str; offset = offset }))
]

-- Where the text stands that a value names; none for a text in place, and for a value that is no text.
unfoldable pub text_place_named : TextSource → Value → Result (Option TextPlace) Flaw
text_place_named s (text_reference form n) = place_elsewhere s form n >>= λ place. Ok (Some place)
text_place_named s _ = Ok None

-- the same of a value of a unit, told at the unit where it cannot be read
abbrev pub text_place_in_unit : Sections → UnitHeader → Value → Result (Option TextPlace) Fault
text_place_in_unit s h v = reported Text Info h.offset (text_place_named (texts_of_unit s h) v)

-- the text at a place
abbrev pub text_at_place : Sections → TextPlace → Result (List ℕ) Flaw
text_at_place s place = text_in s.order (s.bytes place.section) place.offset
