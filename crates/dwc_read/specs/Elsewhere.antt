-- What stands elsewhere, at an offset of a section. (DWARF 5, sections 7.26 and 7.27.)
use Rattle.std.specs.Prelude.{◌≡◌, ℕ, ◌≤◌, List, length, drop, Option, Some, None}
use Rattle.dwc_base.specs.declared.records.Endian.{Endian}
use Rattle.dwc_base.specs.declared.section_name.SectionName.TheVariants.{LineStr, Str, StrOffsets}
use Rattle.dwc_base.specs.Reading.{Unread}
use Rattle.dwc_base.specs.Sections.{Sections}
use Rattle.dwc_dwarf.specs.Texts.{TextSource}

-- what is unread of some bytes from a place on; none past their end
abbrev pub UnreadFrom : Endian → List ℕ → ℕ → Option Unread → Type 0
UnreadFrom order bytes place (Some u) = u ≡ record { order = order; place = place; left = drop place bytes }
UnreadFrom order bytes place None = length bytes ≤ place

-- where the texts of sections are, those by an index from a base on
abbrev pub texts_from : Sections → ℕ → TextSource
texts_from s base = record { order = s.order; strings = s.bytes Str; line_strings = s.bytes LineStr; offsets = s.bytes StrOffsets; base = base }
