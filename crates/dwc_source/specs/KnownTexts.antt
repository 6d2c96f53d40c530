-- The texts of a module that were read already, by the places where they stand.
use Rattle.std.specs.Prelude.{◌≡◌, ℕ, ◌<◌, List, length, Option, None, IfSome, Result, Ok, Err}
use Rattle.dwc_base.specs.declared.faults.Flaw.{Flaw}
use Rattle.dwc_base.specs.declared.section_name.SectionName.{SectionName}
use Rattle.dwc_base.specs.declared.section_name.SectionName.TheVariants.{LineStr, Str}
use Rattle.dwc_base.specs.Sections.{Sections, Fault}
use Rattle.dwc_read.specs.declared.text_place.TextPlace.{TextPlace}
use Rattle.dwc_read.specs.declared.fault.ReadFault.{ReadFault}
use Rattle.dwc_read.specs.Faults.{Refuses, fault_seen}
use Rattle.dwc_read.specs.TextPlaces.{text_at_place}
use Rattle.dwc_unit.specs.declared.strings.StringId.{StringId}
use Rattle.dwc_unit.specs.UsedTexts.{text_numbered}
use Rattle.dwc_source.specs.NotedOffsets.{noted_at}
use Rattle.dwc_source.specs.declared.known_texts.KnownTexts.{KnownTexts}

-- what is noted of the text at an offset of a section: its number in the table, if it is there
abbrev pub noted_in : KnownTexts → SectionName → ℕ → Option (Option StringId)
noted_in known Str offset = noted_at known.strings offset
noted_in known LineStr offset = noted_at known.line_strings offset
noted_in known _ offset = None

abbrev pub noted : KnownTexts → TextPlace → Option (Option StringId)
noted known place = noted_in known place.section place.offset

-- A text is the one of a number in a table.
pub record IsNumbered (texts : List (List ℕ)) (t : List ℕ) (id : StringId) : Type 0 where
  pub inside : id.index < length texts
  pub is : text_numbered texts id.index ≡ t

-- A text can be read, and is the one of a number in a table, if it has one.
pub record IsKnown (texts : List (List ℕ)) (read : Result (List ℕ) Flaw) (id : Option StringId) : Type 0 where
  pub found : List ℕ
  pub is : read ≡ Ok found
  pub number : IfSome id (IsNumbered texts found)

-- Each text that is noted can be read at its place in some sections, and is the one of its number in a table, if it has one.
pub record KnowsTexts (s : Sections) (texts : List (List ℕ)) (known : KnownTexts) : Type 0 where
  pub each : (place : TextPlace) → IfSome (noted known place) (IsKnown texts (text_at_place s place))

-- something can be read
pub record IsRead {A E : Type 0} (read : Result A E) : Type 0 where
  pub found : A
  pub is : read ≡ Ok found

-- Something can be read; or a refusal is for want of memory, or for the fault that reading meets.
abbrev pub IsReadOrFault : {A X : Type 0} → Result A Fault → Result X ReadFault → Type 0
IsReadOrFault read (Ok x) = IsRead read
IsReadOrFault read (Err e) = Refuses read (fault_seen e)
