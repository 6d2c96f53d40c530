-- The text that a value names: in place, by its offset in a section of texts, or by the index of its offset. (DWARF 4, section
-- 7.5.4; DWARF 5, sections 7.5.5 and 7.26.)
use Rattle.std.specs.Prelude.{ℕ, ◌+◌, ◌*◌, List, [], ◌∷◌, drop, Bool, true, false, Option, Some, None, Result, Ok, Err}
use Rattle.dwc_base.specs.declared.records.Endian.{Endian}
use Rattle.dwc_base.specs.declared.faults.Flaw.{Flaw}
use Rattle.dwc_base.specs.declared.faults.Flaw.TheVariants.{Malformed}
use Rattle.dwc_base.specs.declared.constants.TheConstants.{DW_FORM_line_strp, DW_FORM_strp}
use Rattle.dwc_base.specs.declared.section_name.SectionName.TheVariants.{LineStr, Str, StrOffsets}
use Rattle.dwc_base.specs.Sections.{Sections}
use Rattle.dwc_base.specs.Reading.{◌>>=◌, number_at, text_at, coded}
use Rattle.dwc_dwarf.specs.Values.{Value, text, text_reference}

-- Where the texts of a unit are: `.debug_str` and `.debug_line_str`, and in `.debug_str_offsets` the offsets of those by an
-- index, which begin at a base.
pub record TextSource : Type 0 where
  pub order : Endian
  pub strings : List ℕ
  pub line_strings : List ℕ
  pub offsets : List ℕ
  pub base : ℕ

-- the texts of sections, those by an index from a base on
abbrev pub texts_from : Sections → ℕ → TextSource
texts_from s base = record { order = s.order; strings = s.bytes Str; line_strings = s.bytes LineStr; offsets = s.bytes StrOffsets; base = base }

-- the text at an offset of a section
abbrev pub text_in : Endian → List ℕ → ℕ → Result (List ℕ) Flaw
text_in order section offset = text_at (record { order = order; place = offset; left = drop offset section }) >>= λ found. Ok found.0

-- the offset in `.debug_str` that stands at an index
abbrev pub offset_of_text : TextSource → ℕ → Result ℕ Flaw
offset_of_text s index = number_at 4 (record { order = s.order; place = s.base + 4 * index; left = drop (s.base + 4 * index) s.offsets }) >>= λ offset. Ok offset.0

-- the section that a form gives an offset in; the other forms of a text elsewhere give an index
abbrev pub texts_of_form : TextSource → ℕ → Option (List ℕ)
texts_of_form s form = coded ((DW_FORM_strp, s.strings) ∷ (DW_FORM_line_strp, s.line_strings) ∷ []) form

-- the text that a number of a form names
unfoldable pub text_elsewhere : TextSource → ℕ → ℕ → Result (List ℕ) Flaw
text_elsewhere s form n = elim (texts_of_form s form) [
  | Some section ↦ text_in s.order section n
  | None ↦ (offset_of_text s n >>= λ offset. text_in s.order s.strings offset)
]

-- The text that a value names; none for a value that is no text.
unfoldable pub text_named : TextSource → Value → Result (Option (List ℕ)) Flaw
text_named s (text bytes) = Ok (Some bytes)
text_named s (text_reference form n) = text_elsewhere s form n >>= λ bytes. Ok (Some bytes)
text_named s _ = Ok None

-- The text of a path in a line table, which a text alone can say; it is empty where it is not looked up.
unfoldable pub path_text : TextSource → Bool → Value → Result (List ℕ) Flaw
path_text s looked_up (text bytes) = Ok bytes
path_text s looked_up (text_reference form n) = elim looked_up [ true ↦ text_elsewhere s form n | false ↦ Ok [] ]
path_text s looked_up _ = Err Malformed
