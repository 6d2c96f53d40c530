-- What every output has beside its lines and trees: the form of its units, and sections of names of their own, none but those that an output
-- may have, in their order. (DWARF 4, sections 7 and 7.5.1.1; the choice of the version is this project's own.)
use Rattle.std.specs.Prelude.{◌≡◌, ◌≢◌, ℕ, List, [], ◌∷◌, Bool, true, false, if◌then◌else◌, All, AllPairs}
use Rattle.std.specs.Str.{bytes_eq}
use Rattle.dwc_base.specs.declared.section_name.SectionName.{SectionName}
use Rattle.dwc_base.specs.declared.section_name.SectionName.TheVariants.{Abbrev, Frame, Info, Line, LineStr, Loc, Loclists, Ranges, Rnglists, Str}
use Rattle.dwc_base.specs.Outputs.{OutputSection}
use Rattle.dwc_output.specs.Versions.{is_old}
use Rattle.dwc_dwarf.specs.ReadUnits.{Unit}
use Rattle.dwc_base.specs.Sections.{section_text}

-- Units of an output have one version, and addresses of the target's size.
abbrev pub HaveTargetForm : ℕ → ℕ → List Unit → Type 0
HaveTargetForm version pointer_bytes us = All (λ u. (u.header.version ≡ version) × (u.header.address_size ≡ pointer_bytes)) us

-- The names of sections are distinct: a linker would put two of one name behind each other.
abbrev pub HasDistinctNames : List OutputSection → Type 0
HasDistinctNames sections = AllPairs (λ x y. x.name ≢ y.name) sections

-- the names that sections of an output may have, in the order in which they stand: those of abbreviations, entries, line tables, range lists,
-- location lists, texts and call frames; in version 5 lists have others, and the names in line tables are texts elsewhere
abbrev pub names_of_output : ℕ → List SectionName
names_of_output version =
    if is_old version
    then Abbrev ∷ Info ∷ Line ∷ Ranges ∷ Loc ∷ Str ∷ Frame ∷ []
    else Abbrev ∷ Info ∷ Line ∷ LineStr ∷ Rnglists ∷ Loclists ∷ Str ∷ Frame ∷ []

-- whether sections have some of these names, in order
abbrev pub stand_in_order : List SectionName → List OutputSection → Bool
stand_in_order names [] = true
stand_in_order [] (s ∷ ss) = false
stand_in_order (name ∷ names) (s ∷ ss) = if bytes_eq (section_text name) s.name then stand_in_order names ss else stand_in_order names (s ∷ ss)

-- Whether sections are those of an output: each of another of the names that it may have, in their order.
abbrev pub are_of_output : ℕ → List OutputSection → Bool
are_of_output version sections = stand_in_order (names_of_output version) sections
