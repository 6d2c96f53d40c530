-- Texts that are laid out, as a writer keeps them.
use Rattle.std.specs.Prelude.{◌≡◌, ℕ, ◌+◌, ◌<◌, ◌≤◌, List, [], ◌∷◌, ◌++◌, length, IsSomeAnd, Result, Ok, Err}
use Rattle.std.specs.List.{All}
use Rattle.dwc_base.specs.declared.section_name.SectionName.{SectionName}
use Rattle.dwc_base.specs.declared.section_name.SectionName.TheVariants.{Str}
use Rattle.dwc_section.specs.declared.error.WriteError.{WriteError}
use Rattle.dwc_section.specs.declared.error.WriteError.TheVariants.{TooLarge}
use Rattle.dwc_write.specs.declared.text_layout.TextLayout.{TextLayout}
use Rattle.dwc_section.specs.Writers.{IsPast, IsSizeRefusal, most_bytes, section_of}
use Rattle.dwc_unit.specs.GivenUnits.{place_of}
use Rattle.dwc_unit.specs.UsedTexts.{place_of_text, texts_bytes, with_numbers}

-- The texts of a table that are used stand one behind another, within the most bytes of a section.
pub record IsTextLayout (texts : List (List ℕ)) (l : TextLayout) : Type 0 where
  pub many : length l.offsets.items ≡ length texts
  pub places : (n : ℕ) → place_of n l.offsets.items ≡ place_of_text texts 0 l.used.items n
  pub known : All (λ n. n < length texts) l.used.items
  pub long : l.length ≡ length (texts_bytes texts l.used.items)
  pub short : l.length ≤ most_bytes

-- A refusal of texts that are so long, or want of memory.
abbrev pub IsTextRefusal : WriteError → ℕ → Type 0
IsTextRefusal e size = IsSizeRefusal (IsPast Str size) e

-- A place in a section is passed on by a text and its zero, or is refused as it would be past the most that the section holds.
abbrev pub BehindText : Result ℕ WriteError → SectionName → ℕ → List ℕ → Type 0
BehindText (Ok behind) name place text = (behind ≡ place + length (text ++ (0 ∷ []))) × (behind ≤ most_bytes)
BehindText (Err (TooLarge what)) name place text = IsSomeAnd (section_of what) (IsPast name (place + length (text ++ (0 ∷ []))))
BehindText (Err _) name place text = ⊥

-- Texts of some numbers are used behind those that are, or are too long.
abbrev pub UsesTexts : List (List ℕ) → TextLayout → TextLayout → Result (Unit {0}) WriteError → List ℕ → Type 0
UsesTexts texts old new (Ok done) ns = (new.used.items ≡ with_numbers old.used.items ns) × IsTextLayout texts new
UsesTexts texts old new (Err e) ns = IsTextRefusal e (length (texts_bytes texts (with_numbers old.used.items ns)))
