-- Variants of the small module, and how long the sections of its output can be.
use Rattle.std.proofs.Common.{◌≡◌, ℕ, ◌+◌, List, [], ◌∷◌, None, refl}
use Rattle.std.specs.Prelude.{map}
use Rattle.dwc_worked.proofs.DraftsOnLiterals.{drafts_on_literals}
use Rattle.dwc_worked.proofs.SmallModule.{abbreviations_small, info_small, line_small}
use Rattle.dwc_worked.proofs.Readings.{three_sections}
use Rattle.dwc_worked.proofs.LineTables.{function_small}
use Rattle.dwc_base.specs.declared.section_name.SectionName.TheVariants.{Line, Abbrev, Info}
use Rattle.dwc_base.specs.declared.records.Endian.TheVariants.{Little}
use Rattle.dwc_rules.specs.Carried.{Module}
use Rattle.dwc_base.specs.ToldFiles.{bare_file}
use Rattle.dwc_rules.specs.CarriedUnits.{carried_units_of}
use Rattle.dwc_carried.specs.OutputCarried.{widest}
use Rattle.dwc_native.specs.Compiled.{nothing_told}

abbrev pub module_with : List ℕ → List ℕ → List ℕ → Module
module_with a i l = record { sections = three_sections a i l; functions = function_small ∷ []; told = nothing_told; file = bare_file 20; compressed = None; version = 4 }

-- a row names file 9
abbrev pub line_9 : List ℕ
line_9 = 0x30 ∷ 0x00 ∷ 0x00 ∷ 0x00 ∷ 0x04 ∷ 0x00 ∷ 0x1B ∷ 0x00 ∷ 0x00 ∷ 0x00 ∷ 0x01 ∷ 0x01 ∷ 0x01 ∷ 0xFB ∷ 0x0E ∷ 0x0D ∷ 0x00 ∷ 0x01 ∷ 0x01 ∷ 0x01 ∷ 0x01 ∷ 0x00 ∷ 0x00 ∷ 0x00 ∷ 0x01 ∷ 0x00 ∷ 0x00 ∷ 0x01 ∷ 0x00 ∷ 0x61 ∷ 0x2E ∷ 0x63 ∷ 0x00 ∷ 0x00 ∷ 0x00 ∷ 0x00 ∷ 0x00 ∷ 0x00 ∷ 0x05 ∷ 0x02 ∷ 0x02 ∷ 0x00 ∷ 0x00 ∷ 0x00 ∷ 0x04 ∷ 0x09 ∷ 0x01 ∷ 0x02 ∷ 0x0B ∷ 0x00 ∷ 0x01 ∷ 0x01 ∷ []

-- where the subprogram begins at 0 the unit is not carried, and its table is not looked at
abbrev pub info_0 : List ℕ
info_0 = 0x16 ∷ 0x00 ∷ 0x00 ∷ 0x00 ∷ 0x04 ∷ 0x00 ∷ 0x00 ∷ 0x00 ∷ 0x00 ∷ 0x00 ∷ 0x04 ∷ 0x01 ∷ 0x00 ∷ 0x00 ∷ 0x00 ∷ 0x00 ∷ 0x02 ∷ 0x00 ∷ 0x00 ∷ 0x00 ∷ 0x00 ∷ 0x0B ∷ 0x00 ∷ 0x00 ∷ 0x00 ∷ 0x00 ∷ []

not_carried : map (λ u. u.unit.header.offset) (carried_units_of (module_with abbreviations_small info_0 line_9)) ≡ []
unfolding drafts_on_literals
not_carried = refl

-- below the root an entry of the root's shape, and behind it a code that is not declared
abbrev pub info_second_root : List ℕ
info_second_root = 0x12 ∷ 0x00 ∷ 0x00 ∷ 0x00 ∷ 0x04 ∷ 0x00 ∷ 0x00 ∷ 0x00 ∷ 0x00 ∷ 0x00 ∷ 0x04 ∷ 0x01 ∷ 0x00 ∷ 0x00 ∷ 0x00 ∷ 0x00 ∷ 0x01 ∷ 0x00 ∷ 0x00 ∷ 0x00 ∷ 0x00 ∷ 0x03 ∷ []

-- a declaration of a variable, and behind it one with a children byte 2
abbrev pub abbreviations_variable : List ℕ
abbreviations_variable = 0x01 ∷ 0x34 ∷ 0x00 ∷ 0x00 ∷ 0x00 ∷ 0x02 ∷ 0x2E ∷ 0x02 ∷ []

-- a root without a line table: its declaration has no attribute, and the widest sections none
abbrev pub abbreviations_no_lines : List ℕ
abbreviations_no_lines = 0x01 ∷ 0x11 ∷ 0x01 ∷ 0x00 ∷ 0x00 ∷ 0x02 ∷ 0x2E ∷ 0x00 ∷ 0x11 ∷ 0x01 ∷ 0x12 ∷ 0x06 ∷ 0x00 ∷ 0x00 ∷ 0x00 ∷ []

abbrev pub info_no_lines : List ℕ
info_no_lines = 0x12 ∷ 0x00 ∷ 0x00 ∷ 0x00 ∷ 0x04 ∷ 0x00 ∷ 0x00 ∷ 0x00 ∷ 0x00 ∷ 0x00 ∷ 0x04 ∷ 0x01 ∷ 0x02 ∷ 0x02 ∷ 0x00 ∷ 0x00 ∷ 0x00 ∷ 0x0B ∷ 0x00 ∷ 0x00 ∷ 0x00 ∷ 0x00 ∷ []

abbrev pub widths_of_module : Module → List ℕ
widths_of_module m = map (λ name. widest name (record { order = Little; pointer_bytes = 8; modules = m ∷ []; next_id = 0; common_entry = None; version = 4 })) (Abbrev ∷ Info ∷ Line ∷ [])

-- the module's synthetic unit, and the carried one
widths-no_lines : widths_of_module (module_with abbreviations_no_lines info_no_lines []) ≡ (698 + 233 + 575) ∷ (176 + 91 + 117) ∷ 73 ∷ []
unfolding drafts_on_literals
widths-no_lines = refl

widths-lines : widths_of_module (module_with abbreviations_small info_small line_small) ≡ (698 + 253 + 575) ∷ (176 + 95 + 117) ∷ (271 + 73) ∷ []
unfolding drafts_on_literals
widths-lines = refl
