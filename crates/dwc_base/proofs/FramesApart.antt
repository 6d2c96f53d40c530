-- A reader of entries and lines sees the same sections with and without the frames behind them: `frames-apart`.
use Rattle.std.proofs.Common.{◌≡◌, refl, ap, ◌∙◌, List, [], ◌∷◌, ◌++◌, Option, None, Bool, true, false}
use Rattle.std.specs.Prelude.{if◌then◌else◌, Some, option_map}
use Rattle.std.proofs.Math.Path.{fun_ext}
use Rattle.std.specs.List.{filter_map, find}
use Rattle.std.specs.Option.{unwrap_or}
use Rattle.std.specs.Str.{bytes_eq}
use Rattle.dwc_base.specs.declared.records.Endian.{Endian}
use Rattle.dwc_base.specs.declared.section_name.SectionName.{SectionName}
use Rattle.dwc_base.specs.declared.section_name.SectionName.TheVariants.{Abbrev, Addr, Info, Line, LineStr, Loc, Loclists, Ranges, Rnglists, Str, StrOffsets, CuIndex, Frame}
use Rattle.dwc_base.specs.Sections.{section_text}
use Rattle.dwc_base.specs.Outputs.{OutputSection, function_relocation, output_bytes, output_relocations, output_sections, section_named}

-- A section that does not pass a test is not found behind others.
not-found : (test : OutputSection → Bool) (xs : List OutputSection) (f : OutputSection) → test f ≡ false → find test (xs ++ f ∷ []) ≡ find test xs
not-found test [] f other = ap (λ b. if b then Some f else None) other
not-found test (x ∷ xs) f other = go (test x) (not-found test xs f other)
  where
    go : {a b : Option OutputSection} (found : Bool) → a ≡ b → (if found then Some x else a) ≡ (if found then Some x else b)
    go true same = refl
    go false same = same

module _ (xs : List OutputSection) (f : OutputSection) (frames : f.name ≡ section_text Frame) where
  -- one of another name
  apart : (name : SectionName) → bytes_eq (section_text Frame) (section_text name) ≡ false → section_named (section_text name) (xs ++ f ∷ []) ≡ section_named (section_text name) xs
  apart name other = not-found (λ s. bytes_eq s.name (section_text name)) xs f (ap (λ own. bytes_eq own (section_text name)) frames ∙ other)

  bytes-of : (name : SectionName) → bytes_eq (section_text Frame) (section_text name) ≡ false
      → unwrap_or (option_map (λ s. s.body) (section_named (section_text name) (xs ++ f ∷ []))) [] ≡ unwrap_or (option_map (λ s. s.body) (section_named (section_text name) xs)) []
  bytes-of name other = ap (λ (o : Option OutputSection). unwrap_or (option_map (λ s. s.body) o) []) (apart name other)

  relocations-of : (name : SectionName) → bytes_eq (section_text Frame) (section_text name) ≡ false
      → unwrap_or (option_map (λ s. filter_map function_relocation s.relocations) (section_named (section_text name) (xs ++ f ∷ []))) [] ≡ unwrap_or (option_map (λ s. filter_map function_relocation s.relocations) (section_named (section_text name) xs)) []
  relocations-of name other = ap (λ (o : Option OutputSection). unwrap_or (option_map (λ s. filter_map function_relocation s.relocations) o) []) (apart name other)

  bytes-apart : (name : SectionName) → output_bytes (xs ++ f ∷ []) name ≡ output_bytes xs name
  bytes-apart Abbrev = bytes-of Abbrev refl
  bytes-apart Addr = bytes-of Addr refl
  bytes-apart Info = bytes-of Info refl
  bytes-apart Line = bytes-of Line refl
  bytes-apart LineStr = bytes-of LineStr refl
  bytes-apart Loc = bytes-of Loc refl
  bytes-apart Loclists = bytes-of Loclists refl
  bytes-apart Ranges = bytes-of Ranges refl
  bytes-apart Rnglists = bytes-of Rnglists refl
  bytes-apart Str = bytes-of Str refl
  bytes-apart StrOffsets = bytes-of StrOffsets refl
  bytes-apart CuIndex = bytes-of CuIndex refl
  bytes-apart Frame = refl

  relocations-apart : (name : SectionName) → output_relocations (xs ++ f ∷ []) name ≡ output_relocations xs name
  relocations-apart Abbrev = relocations-of Abbrev refl
  relocations-apart Addr = relocations-of Addr refl
  relocations-apart Info = relocations-of Info refl
  relocations-apart Line = relocations-of Line refl
  relocations-apart LineStr = relocations-of LineStr refl
  relocations-apart Loc = relocations-of Loc refl
  relocations-apart Loclists = relocations-of Loclists refl
  relocations-apart Ranges = relocations-of Ranges refl
  relocations-apart Rnglists = relocations-of Rnglists refl
  relocations-apart Str = relocations-of Str refl
  relocations-apart StrOffsets = relocations-of StrOffsets refl
  relocations-apart CuIndex = relocations-of CuIndex refl
  relocations-apart Frame = refl

-- The frames behind some sections change nothing of what is read.
pub frames-apart : (order : Endian) (xs : List OutputSection) (f : OutputSection) → f.name ≡ section_text Frame → output_sections order (xs ++ f ∷ []) ≡ output_sections order xs
frames-apart order xs f frames = λ i. record { order = order; bytes = fun_ext (bytes-apart xs f frames) i; relocations = fun_ext (relocations-apart xs f frames) i }
