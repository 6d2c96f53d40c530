-- The names that the line tables of units take from elsewhere, as a writer finds them.
use Rattle.std.specs.Prelude.{◌==◌, ℕ, List, [], ◌∷◌, length, if◌then◌else◌}
use Rattle.dwc_base.specs.declared.constants.TheConstants.{DW_AT_comp_dir}
use Rattle.dwc_base.specs.declared.section_name.SectionName.TheVariants.{LineStr}
use Rattle.dwc_section.specs.declared.error.WriteError.{WriteError}
use Rattle.dwc_section.specs.Writers.{IsPast, IsSizeRefusal}
use Rattle.dwc_unit.specs.declared.attributes.Attribute.{Attribute}
use Rattle.dwc_unit.specs.declared.attributes.AttributeValue.{AttributeValue}
use Rattle.dwc_unit.specs.declared.attributes.AttributeValue.TheVariants.{StringRef}
use Rattle.dwc_unit.specs.GivenUnits.{OrderedUnit}
use Rattle.dwc_unit.specs.LineNames.{line_texts_bytes}
use Rattle.dwc_unit.specs.UsedTexts.{text_numbered}

-- the text that a value names in a table, or the empty one
abbrev pub text_said_by : List (List ℕ) → AttributeValue → List ℕ
text_said_by texts (StringRef id) = text_numbered texts id.index
text_said_by texts _ = []

-- that of the first compilation directory among some attributes
abbrev pub own_among : List (List ℕ) → List Attribute → List ℕ
own_among texts [] = []
own_among texts (a ∷ others) = if a.name == DW_AT_comp_dir then text_said_by texts a.value else own_among texts others

-- A refusal of names that are so long, or want of memory.
abbrev pub IsNamesRefusal : WriteError → List (List ℕ) → List OrderedUnit → Type 0
IsNamesRefusal e texts us = IsSizeRefusal (IsPast LineStr (length (line_texts_bytes texts us))) e
