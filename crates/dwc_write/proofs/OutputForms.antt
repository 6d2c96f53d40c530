-- What holds of each section that is written, and that their names are distinct: `distinct-names`.
use Rattle.std.proofs.Common.{◌≡◌, ◌≢◌, ℕ, List, [], ◌∷◌, ◌++◌, Bool, true, false, refl, sym, subst, arith}
use Rattle.std.specs.Prelude.{◌&&◌, not, if◌then◌else◌}
use Rattle.std.specs.List.{All}
use Rattle.std.specs.Str.{bytes_eq}
use Rattle.std.proofs.lemmas.Slice.Eq.{bytes_eq-Decides}
use Rattle.std.proofs.lemmas.List.Elements.{All-cons, All-nil}
use Rattle.std.proofs.lemmas.List.Kept.{AllPairs-cons}
use Rattle.dwc_base.specs.declared.records.Endian.{Endian}
use Rattle.dwc_base.specs.declared.section_name.SectionName.{SectionName}
use Rattle.dwc_base.specs.declared.section_name.SectionName.TheVariants.{Frame, Loc, Loclists, Ranges, Rnglists}
use Rattle.dwc_base.specs.Sections.{section_text}
use Rattle.dwc_base.specs.Outputs.{OutputRelocation, OutputSection}
use Rattle.dwc_output.specs.OutputForm.{HasDistinctNames}
use Rattle.dwc_output.specs.Versions.{is_old}
use Rattle.dwc_unit.specs.GivenUnits.{OrderedUnit, version_of}
use Rattle.dwc_write.specs.SpelledOutput.{section_unless_empty, spelled_sections}
use Rattle.dwc_write.proofs.SectionsHold.{Part, are-written, sections_of_seven, seven, written}

-- what holds of a section that is written, and of the others
pub all-written : (P : OutputSection → Type 0) (name : SectionName) (bytes : List ℕ) (rs : List OutputRelocation) (others : List OutputSection)
    → P (record { name = section_text name; body = bytes; relocations = rs }) → All P others → All P (section_unless_empty name bytes rs ++ others)
all-written P name [] rs others here rest = rest
all-written P name (b ∷ bytes) rs others here rest = All-cons P _ others here rest

pub last-written : (P : OutputSection → Type 0) (name : SectionName) (bytes : List ℕ) (rs : List OutputRelocation) → P (record { name = section_text name; body = bytes; relocations = rs }) → All P (section_unless_empty name bytes rs)
last-written P name [] rs here = All-nil P
last-written P name (b ∷ bytes) rs here = All-cons P _ [] here (All-nil P)

abbrev pub Differ : OutputSection → OutputSection → Type 0
Differ x y = x.name ≢ y.name

pub none-differ : HasDistinctNames []
none-differ i j d less within = absurd (omega arith)

-- ---- names that are not those of others

abbrev is_apart : List ℕ → List Part → Bool
is_apart name [] = true
is_apart name (p ∷ ps) = not (bytes_eq (section_text p.name) name) && is_apart name ps

abbrev are_apart : List Part → Bool
are_apart [] = true
are_apart (p ∷ ps) = is_apart (section_text p.name) ps && are_apart ps

both : (a b : Bool) → (a && b) ≡ true → (a ≡ true) × (b ≡ true)
both true b e = (refl, e)
both false b e = absurd (cc)

unequal : (a b : List ℕ) → not (bytes_eq a b) ≡ true → bytes_eq a b ≡ false
unequal a b e = go (bytes_eq a b) refl e
  where
    go : (c : Bool) → bytes_eq a b ≡ c → not c ≡ true → bytes_eq a b ≡ false
    go true is e = absurd (cc)
    go false is e = is

differ : (a b : List ℕ) → bytes_eq b a ≡ false → a ≢ b
differ a b not_so e = let same = (bytes_eq-Decides b a).1 (sym e) in absurd (cc)

parts-differ : (name : List ℕ) (ps : List Part) → is_apart name ps ≡ true → All (λ t. name ≢ t.name) (written ps)
parts-differ name [] e = All-nil _
parts-differ name (p ∷ ps) e =
    let apart = both (not (bytes_eq (section_text p.name) name)) (is_apart name ps) e in
    all-written (λ t. name ≢ t.name) p.name p.body p.relocations (written ps) (differ name (section_text p.name) (unequal (section_text p.name) name apart.0)) (parts-differ name ps apart.1)

distinct-written : (name : SectionName) (bytes : List ℕ) (rs : List OutputRelocation) (others : List OutputSection) → All (λ t. section_text name ≢ t.name) others → HasDistinctNames others → HasDistinctNames (section_unless_empty name bytes rs ++ others)
distinct-written name [] rs others here rest = rest
distinct-written name (b ∷ bytes) rs others here rest = AllPairs-cons Differ _ others here rest

parts-distinct : (ps : List Part) → are_apart ps ≡ true → HasDistinctNames (written ps)
parts-distinct [] e = none-differ
parts-distinct (p ∷ ps) e =
    let apart = both (is_apart (section_text p.name) ps) (are_apart ps) e in
    distinct-written p.name p.body p.relocations (written ps) (parts-differ (section_text p.name) ps apart.0) (parts-distinct ps apart.1)

pub distinct-names : (order : Endian) (texts : List (List ℕ)) (us : List OrderedUnit) → HasDistinctNames (spelled_sections order texts us)
distinct-names order texts us = by_version (is_old (version_of us)) _ _ _ _ _ _ _ _ _ _ _
  where
    by_version : (old : Bool) (x y z n v l w : List ℕ) (q r t k : List OutputRelocation) → HasDistinctNames (sections_of_seven (if old then Ranges else Rnglists) (if old then Loc else Loclists) x y z n v l w q r t k)
    by_version true x y z n v l w q r t k = subst HasDistinctNames (sym (are-written Ranges Loc order x y z n v l w q r t k)) (parts-distinct (seven Ranges Loc order x y z n v l w q r t k) refl)
    by_version false x y z n v l w q r t k = subst HasDistinctNames (sym (are-written Rnglists Loclists order x y z n v l w q r t k)) (parts-distinct (seven Rnglists Loclists order x y z n v l w q r t k) refl)

-- ---- the frames have another name

-- a section beside the frames
abbrev pub IsOther : OutputSection → Type 0
IsOther s = bytes_eq s.name (section_text Frame) ≡ false

parts-other : (ps : List Part) → is_apart (section_text Frame) ps ≡ true → All IsOther (written ps)
parts-other [] e = All-nil IsOther
parts-other (p ∷ ps) e =
    let apart = both (not (bytes_eq (section_text p.name) (section_text Frame))) (is_apart (section_text Frame) ps) e in
    all-written IsOther p.name p.body p.relocations (written ps) (unequal (section_text p.name) (section_text Frame) apart.0) (parts-other ps apart.1)

pub all-others : (order : Endian) (texts : List (List ℕ)) (us : List OrderedUnit) → All IsOther (spelled_sections order texts us)
all-others order texts us = by_version (is_old (version_of us)) _ _ _ _ _ _ _ _ _ _ _
  where
    by_version : (old : Bool) (x y z n v l w : List ℕ) (q r t k : List OutputRelocation) → All IsOther (sections_of_seven (if old then Ranges else Rnglists) (if old then Loc else Loclists) x y z n v l w q r t k)
    by_version true x y z n v l w q r t k = subst (All IsOther) (sym (are-written Ranges Loc order x y z n v l w q r t k)) (parts-other (seven Ranges Loc order x y z n v l w q r t k) refl)
    by_version false x y z n v l w q r t k = subst (All IsOther) (sym (are-written Rnglists Loclists order x y z n v l w q r t k)) (parts-other (seven Rnglists Loclists order x y z n v l w q r t k) refl)
