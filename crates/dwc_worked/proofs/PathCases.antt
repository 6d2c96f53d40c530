-- Paths of line tables by the index of a text, from the base of the unit that names the table, worked out by hand. (DWARF 5,
-- sections 3.1.1, 6.2.4.1 and 7.26.)
use Rattle.std.proofs.Common.{◌≡◌, ℕ, List, [], ◌∷◌, map, Option, Some, None, Result, Ok, refl}
use Rattle.std.specs.List.{filter_map}
use Rattle.dwc_base.specs.declared.records.Endian.TheVariants.{Little}
use Rattle.dwc_base.specs.declared.faults.What.TheVariants.{LineTable as LineTableRead}
use Rattle.dwc_base.specs.declared.section_name.SectionName.TheVariants.{Abbrev, Info, Line, Str, StrOffsets}
use Rattle.dwc_base.specs.Sections.{Sections, Fault, unreadable}
use Rattle.dwc_dwarf.specs.LineRows.{LineTable}
use Rattle.dwc_dwarf.specs.ReadUnits.{units, table_of_unit}
use Rattle.dwc_rules.specs.Refusals.{Refusal, of_place, unit_refusal}
use Rattle.dwc_worked.proofs.OnLiterals.{lines_on_literals}

-- a line table of version 5, with one file, by strx1, whose index is 0
abbrev line_of_a_path : List ℕ
line_of_a_path = 0x26 ∷ 0x00 ∷ 0x00 ∷ 0x00 ∷ 0x05 ∷ 0x00 ∷ 0x04 ∷ 0x00 ∷ 0x19 ∷ 0x00 ∷ 0x00 ∷ 0x00 ∷ 0x01 ∷ 0x01 ∷ 0x01 ∷ 0xFB ∷ 0x0E ∷ 0x0D ∷ 0x00 ∷ 0x01 ∷ 0x01 ∷ 0x01 ∷ 0x01 ∷ 0x00 ∷ 0x00 ∷ 0x00 ∷ 0x01 ∷ 0x00 ∷ 0x00 ∷ 0x01 ∷ 0x00 ∷ 0x00 ∷ 0x01 ∷ 0x01 ∷ 0x25 ∷ 0x01 ∷ 0x00 ∷ 0x01 ∷ 0x02 ∷ 0x03 ∷ 0x01 ∷ 0x01 ∷ []

-- sections with that table: `.debug_str` has `f` at 0 and `g` at 2, and behind a header of eight bytes the offsets 0 and 2
abbrev sections : List ℕ → List ℕ → Sections
sections abbreviations info = record { order = Little; bytes = λ name. elim name [ Abbrev ↦ abbreviations | Info ↦ info | Line ↦ line_of_a_path | Str ↦ (0x66 ∷ 0x00 ∷ 0x67 ∷ 0x00 ∷ []) | StrOffsets ↦ (0x0C ∷ 0x00 ∷ 0x00 ∷ 0x00 ∷ 0x05 ∷ 0x00 ∷ 0x00 ∷ 0x00 ∷ 0x00 ∷ 0x00 ∷ 0x00 ∷ 0x00 ∷ 0x02 ∷ 0x00 ∷ 0x00 ∷ 0x00 ∷ []) | _ ↦ [] ]; relocations = λ name. [] }

-- the names of the files of the tables of units, without those that cannot be read
abbrev files_of : Result (Option LineTable) Fault → Option (List (List ℕ))
files_of (Ok (Some t)) = Some (map (λ f. f.name) t.files)
files_of _ = None

abbrev files : Sections → List (List (List ℕ))
files s = filter_map (λ u. files_of (table_of_unit s u)) (units s).items

-- the refusals of the tables of units
abbrev refusals : Sections → List Refusal
refusals s = filter_map (unit_refusal s) (units s).items

-- roots that name the table: with the base that they say, and without
abbrev with_base : List ℕ
with_base = 0x01 ∷ 0x11 ∷ 0x00 ∷ 0x10 ∷ 0x17 ∷ 0x72 ∷ 0x17 ∷ 0x00 ∷ 0x00 ∷ 0x00 ∷ []

abbrev without_base : List ℕ
without_base = 0x01 ∷ 0x11 ∷ 0x00 ∷ 0x10 ∷ 0x17 ∷ 0x00 ∷ 0x00 ∷ 0x00 ∷ []

-- a unit of version 5 whose root says a base
abbrev unit_at_base : ℕ → List ℕ
unit_at_base base = 0x11 ∷ 0x00 ∷ 0x00 ∷ 0x00 ∷ 0x05 ∷ 0x00 ∷ 0x01 ∷ 0x04 ∷ 0x00 ∷ 0x00 ∷ 0x00 ∷ 0x00 ∷ 0x01 ∷ 0x00 ∷ 0x00 ∷ 0x00 ∷ 0x00 ∷ base ∷ 0x00 ∷ 0x00 ∷ 0x00 ∷ []

-- units of the versions 5 and 4 whose roots say none
abbrev unit_5 : List ℕ
unit_5 = 0x0D ∷ 0x00 ∷ 0x00 ∷ 0x00 ∷ 0x05 ∷ 0x00 ∷ 0x01 ∷ 0x04 ∷ 0x00 ∷ 0x00 ∷ 0x00 ∷ 0x00 ∷ 0x01 ∷ 0x00 ∷ 0x00 ∷ 0x00 ∷ 0x00 ∷ []

abbrev unit_4 : List ℕ
unit_4 = 0x0C ∷ 0x00 ∷ 0x00 ∷ 0x00 ∷ 0x04 ∷ 0x00 ∷ 0x00 ∷ 0x00 ∷ 0x00 ∷ 0x00 ∷ 0x04 ∷ 0x01 ∷ 0x00 ∷ 0x00 ∷ 0x00 ∷ 0x00 ∷ []

-- from the usual base, for units of either version
usual-5 : files (sections without_base unit_5) ≡ ((0x66 ∷ []) ∷ []) ∷ []
unfolding lines_on_literals
usual-5 = refl

usual-4 : files (sections without_base unit_4) ≡ ((0x66 ∷ []) ∷ []) ∷ []
unfolding lines_on_literals
usual-4 = refl

-- from the base that the root says
said-8 : files (sections with_base (unit_at_base 8)) ≡ ((0x66 ∷ []) ∷ []) ∷ []
unfolding lines_on_literals
said-8 = refl

said-12 : files (sections with_base (unit_at_base 12)) ≡ ((0x67 ∷ []) ∷ []) ∷ []
unfolding lines_on_literals
said-12 = refl

-- an offset that is cut, and none: the table cannot be read, at its place
said-13 : refusals (sections with_base (unit_at_base 13)) ≡ of_place (unreadable LineTableRead Line 0) ∷ []
unfolding lines_on_literals
said-13 = refl

said-16 : refusals (sections with_base (unit_at_base 16)) ≡ of_place (unreadable LineTableRead Line 0) ∷ []
unfolding lines_on_literals
said-16 = refl
