-- What the sections that are spelled hold, each read by its name: `sections-hold`.
use Rattle.std.proofs.Common.{◌≡◌, ℕ, refl, sym, ap, ◌∙◌, List, [], ◌∷◌, ◌++◌, append-nil, Option, Some, None, Bool, true, false, inl, inr}
use Rattle.std.specs.Prelude.{if◌then◌else◌, option_map}
use Rattle.std.specs.List.{filter_map}
use Rattle.std.specs.Option.{option_or, unwrap_or}
use Rattle.std.specs.Str.{bytes_eq}
use Rattle.dwc_base.specs.declared.records.Endian.{Endian}
use Rattle.dwc_base.specs.declared.section_name.SectionName.{SectionName}
use Rattle.dwc_base.specs.declared.section_name.SectionName.TheVariants.{Abbrev, Info, Line, LineStr, Loc, Loclists, Ranges, Rnglists, Str}
use Rattle.dwc_base.specs.Sections.{Sections, section_text}
use Rattle.dwc_base.specs.Outputs.{OutputRelocation, OutputSection, function_relocation, output_sections, section_named}
use Rattle.dwc_output.specs.FieldKinds.{section_of_locations, section_of_ranges}
use Rattle.dwc_unit.specs.GivenUnits.{IsWrittenVersion}
use Rattle.dwc_write.specs.SpelledOutput.{section_unless_empty}

-- ---- sections by their names

-- a section, which is written where it is not empty
pub record Part : Type 0 where
  pub name : SectionName
  pub body : List ℕ
  pub relocations : List OutputRelocation

abbrev pub part : SectionName → List ℕ → List OutputRelocation → Part
part name body relocations = record { name = name; body = body; relocations = relocations }

abbrev pub written : List Part → List OutputSection
written [] = []
written (p ∷ ps) = section_unless_empty p.name p.body p.relocations ++ written ps

abbrev as_section : SectionName → List ℕ → List OutputRelocation → Option OutputSection
as_section name [] rs = None
as_section name (b ∷ bytes) rs = Some (record { name = section_text name; body = b ∷ bytes; relocations = rs })

-- the first that is written under a name
abbrev section_in : List Part → SectionName → Option OutputSection
section_in [] name = None
section_in (p ∷ ps) name = if bytes_eq (section_text p.name) (section_text name) then option_or (as_section p.name p.body p.relocations) (section_in ps name) else section_in ps name

found : (ps : List Part) (name : SectionName) → section_named (section_text name) (written ps) ≡ section_in ps name
found [] name = refl
found (p ∷ ps) name = go p.body (found ps name)
  where
    none : (b : Bool) → section_in ps name ≡ (if b then option_or None (section_in ps name) else section_in ps name)
    none true = refl
    none false = refl

    some : (b : Bool) (s : OutputSection) (o : Option OutputSection) → o ≡ section_in ps name → (if b then Some s else o) ≡ (if b then option_or (Some s) (section_in ps name) else section_in ps name)
    some true s o others = refl
    some false s o others = others

    go : (body : List ℕ) → section_named (section_text name) (written ps) ≡ section_in ps name → section_named (section_text name) (section_unless_empty p.name body p.relocations ++ written ps) ≡ (if bytes_eq (section_text p.name) (section_text name) then option_or (as_section p.name body p.relocations) (section_in ps name) else section_in ps name)
    go [] others = others ∙ none (bytes_eq (section_text p.name) (section_text name))
    go (b ∷ bytes) others = some (bytes_eq (section_text p.name) (section_text name)) _ _ others

-- ---- what seven sections hold, of which two have their names by the version

pub record Holds (version : ℕ) (order : Endian) (x y z n v l w : List ℕ) (q r t k : List OutputRelocation) (s : Sections) : Type 0 where
  pub abbrev_is : s.bytes Abbrev ≡ x
  pub info_is : s.bytes Info ≡ y
  pub line_is : s.bytes Line ≡ z
  pub names_are : s.bytes LineStr ≡ n
  pub ranges_are : s.bytes (section_of_ranges version) ≡ v
  pub locations_are : s.bytes (section_of_locations version) ≡ l
  pub strings_are : s.bytes Str ≡ w
  pub info_relocations_are : s.relocations Info ≡ filter_map function_relocation q
  pub line_relocations_are : s.relocations Line ≡ filter_map function_relocation r
  pub ranges_relocations_are : s.relocations (section_of_ranges version) ≡ filter_map function_relocation t
  pub locations_relocations_are : s.relocations (section_of_locations version) ≡ filter_map function_relocation k

abbrev bytes_in : Option OutputSection → List ℕ
bytes_in o = unwrap_or (option_map (λ s. s.body) o) []

bytes-are : (name : SectionName) (body : List ℕ) (rs : List OutputRelocation) → bytes_in (option_or (as_section name body rs) None) ≡ body
bytes-are name [] rs = refl
bytes-are name (b ∷ body) rs = refl

relocations-are : (name : SectionName) (body : List ℕ) (rs : List OutputRelocation) → (body ≡ [] → rs ≡ [])
    → unwrap_or (option_map (λ s. filter_map function_relocation s.relocations) (option_or (as_section name body rs) None)) [] ≡ filter_map function_relocation rs
relocations-are name [] rs none = ap (filter_map function_relocation) (sym (none refl))
relocations-are name (b ∷ body) rs none = refl

abbrev pub sections_of_seven : SectionName → SectionName → List ℕ → List ℕ → List ℕ → List ℕ → List ℕ → List ℕ → List ℕ → List OutputRelocation → List OutputRelocation → List OutputRelocation → List OutputRelocation → List OutputSection
sections_of_seven ranged located x y z n v l w q r t k =
    section_unless_empty Abbrev x [] ++ (section_unless_empty Info y q ++ (section_unless_empty Line z r ++ (section_unless_empty LineStr n [] ++ (section_unless_empty ranged v t ++ (section_unless_empty located l k ++ section_unless_empty Str w [])))))

-- the same with names of lists that are given
module _ (ranged located : SectionName) (order : Endian) (x y z n v l w : List ℕ) (q r t k : List OutputRelocation) where
  abbrev pub seven : List Part
  seven = part Abbrev x [] ∷ part Info y q ∷ part Line z r ∷ part LineStr n [] ∷ part ranged v t ∷ part located l k ∷ part Str w [] ∷ []

  abbrev pub these : List OutputSection
  these = sections_of_seven ranged located x y z n v l w q r t k

  pub are-written : these ≡ written seven
  are-written = ap (λ ss. section_unless_empty Abbrev x [] ++ (section_unless_empty Info y q ++ (section_unless_empty Line z r ++ (section_unless_empty LineStr n [] ++ (section_unless_empty ranged v t ++ (section_unless_empty located l k ++ ss)))))) (sym (append-nil (section_unless_empty Str w [])))

  of-name : (name : SectionName) → section_named (section_text name) these ≡ section_in seven name
  of-name name = ap (section_named (section_text name)) are-written ∙ found seven name

  pub bytes-of : (name : SectionName) (body : List ℕ) (rs : List OutputRelocation) → section_in seven name ≡ option_or (as_section name body rs) None → bytes_in (section_named (section_text name) these) ≡ body
  bytes-of name body rs is = ap bytes_in (of-name name ∙ is) ∙ bytes-are name body rs

  pub relocations-of : (name : SectionName) (body : List ℕ) (rs : List OutputRelocation) → (body ≡ [] → rs ≡ []) → section_in seven name ≡ option_or (as_section name body rs) None
      → unwrap_or (option_map (λ s. filter_map function_relocation s.relocations) (section_named (section_text name) these)) [] ≡ filter_map function_relocation rs
  relocations-of name body rs none is = ap (λ o. unwrap_or (option_map (λ (s : OutputSection). filter_map function_relocation s.relocations) o) []) (of-name name ∙ is) ∙ relocations-are name body rs none

module _ (order : Endian) (x y z n v l w : List ℕ) (q r t k : List OutputRelocation) (info : y ≡ [] → q ≡ []) (line : z ≡ [] → r ≡ []) (ranges : v ≡ [] → t ≡ []) (locations : l ≡ [] → k ≡ []) where
  old-hold : Holds 4 order x y z n v l w q r t k (output_sections order (sections_of_seven Ranges Loc x y z n v l w q r t k))
  old-hold = record {
    abbrev_is = bytes-of Ranges Loc order x y z n v l w q r t k Abbrev x [] refl;
    info_is = bytes-of Ranges Loc order x y z n v l w q r t k Info y q refl;
    line_is = bytes-of Ranges Loc order x y z n v l w q r t k Line z r refl;
    names_are = bytes-of Ranges Loc order x y z n v l w q r t k LineStr n [] refl;
    ranges_are = bytes-of Ranges Loc order x y z n v l w q r t k Ranges v t refl;
    locations_are = bytes-of Ranges Loc order x y z n v l w q r t k Loc l k refl;
    strings_are = bytes-of Ranges Loc order x y z n v l w q r t k Str w [] refl;
    info_relocations_are = relocations-of Ranges Loc order x y z n v l w q r t k Info y q info refl;
    line_relocations_are = relocations-of Ranges Loc order x y z n v l w q r t k Line z r line refl;
    ranges_relocations_are = relocations-of Ranges Loc order x y z n v l w q r t k Ranges v t ranges refl;
    locations_relocations_are = relocations-of Ranges Loc order x y z n v l w q r t k Loc l k locations refl;
  }

  new-hold : Holds 5 order x y z n v l w q r t k (output_sections order (sections_of_seven Rnglists Loclists x y z n v l w q r t k))
  new-hold = record {
    abbrev_is = bytes-of Rnglists Loclists order x y z n v l w q r t k Abbrev x [] refl;
    info_is = bytes-of Rnglists Loclists order x y z n v l w q r t k Info y q refl;
    line_is = bytes-of Rnglists Loclists order x y z n v l w q r t k Line z r refl;
    names_are = bytes-of Rnglists Loclists order x y z n v l w q r t k LineStr n [] refl;
    ranges_are = bytes-of Rnglists Loclists order x y z n v l w q r t k Rnglists v t refl;
    locations_are = bytes-of Rnglists Loclists order x y z n v l w q r t k Loclists l k refl;
    strings_are = bytes-of Rnglists Loclists order x y z n v l w q r t k Str w [] refl;
    info_relocations_are = relocations-of Rnglists Loclists order x y z n v l w q r t k Info y q info refl;
    line_relocations_are = relocations-of Rnglists Loclists order x y z n v l w q r t k Line z r line refl;
    ranges_relocations_are = relocations-of Rnglists Loclists order x y z n v l w q r t k Rnglists v t ranges refl;
    locations_relocations_are = relocations-of Rnglists Loclists order x y z n v l w q r t k Loclists l k locations refl;
  }

  pub sections-hold : (version : ℕ) → IsWrittenVersion version → Holds version order x y z n v l w q r t k (output_sections order (sections_of_seven (section_of_ranges version) (section_of_locations version) x y z n v l w q r t k))
  sections-hold version (inl e) = rw (e) old-hold
  sections-hold version (inr e) = rw (e) new-hold
