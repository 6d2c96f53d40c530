-- An output for the small module where its function is simulated: its bytes say the wanted trees, and the wanted lines; and wrong ones are
-- refused.
use Rattle.std.proofs.Common.{◌≡◌, ℕ, pos, List, [], ◌∷◌, ◌++◌, length, map, Some, None, Ok, Result, true, false, refl, ap, arith, lit<}
use Rattle.std.specs.Prelude.{Option, codes}
use Rattle.std.specs.Option.{unwrap_or}
use Rattle.dwc_base.specs.declared.records.Endian.TheVariants.{Little}
use Rattle.dwc_base.specs.declared.section_name.SectionName.TheVariants.{Info, Line, Ranges}
use Rattle.dwc_output.specs.PathFields.{header_paths_at}
use Rattle.dwc_output.specs.Fields.{fields_at, fields_of_entry, fields_of_instructions, fields_of_line_table, fields_of_named, fields_of_section, relocations_of_fields}
use Rattle.dwc_base.specs.Outputs.{OutputRelocation, OutputSection, function, output_sections}
use Rattle.dwc_base.specs.Sections.{Fault}
use Rattle.dwc_dwarf.specs.LineRows.{RowContents, Segment}
use Rattle.dwc_dwarf.specs.ReadUnits.{units, segments_of_unit}
use Rattle.dwc_native.specs.Runs.{interval_of}
use Rattle.dwc_dwarf.specs.Trees.{Tree}
use Rattle.dwc_output.specs.TreeReading.{CarriesTrees, ranges_read}
use Rattle.dwc_dwarf.specs.TreeLaws.{HasTextsOnce, texts_ended}
use Rattle.dwc_output.specs.SimulatedLines.{simulated_contents, simulated_segment, IsSimulated, CarriesSimulated}
use Rattle.dwc_worked.proofs.CarriedSmall.{unit_of, table_of}
use Rattle.dwc_worked.proofs.LineTables.{function_small}
use Rattle.dwc_worked.proofs.SyntheticTrees.{synthetic_tree, synthetic_abbreviations, synthetic_info, synthetic_texts, to_section, synthetic_relocations}
use Rattle.dwc_worked.proofs.SimulatedInputs.{trees_of, simulated_on_literals, named_small, told_with, simulated_front, simulated_function}
use Rattle.dwc_worked.proofs.SmallModule.{abbreviations_small, line_small}
use Rattle.dwc_worked.proofs.Variants.{info_0}
use Rattle.dwc_output.proofs.SimulatedLineLaws.{simulated_segment-is}
use Rattle.dwc_worked.proofs.TreeInputs.{a_section}

-- ---- bytes

-- the declarations of the root, of the types, and of a function without variables
abbrev abbreviations_simulated : List ℕ
abbreviations_simulated =
    0x01 ∷ 0x11 ∷ 0x01 ∷ 0x25 ∷ 0x0E ∷ 0x13 ∷ 0x05 ∷ 0x03 ∷ 0x0E ∷ 0x10 ∷ 0x17 ∷ 0x1B ∷ 0x0E ∷ 0x55 ∷ 0x17 ∷ 0x00 ∷ 0x00
    ∷ 0x02 ∷ 0x24 ∷ 0x00 ∷ 0x03 ∷ 0x0E ∷ 0x0B ∷ 0x0B ∷ 0x3E ∷ 0x0B ∷ 0x00 ∷ 0x00
    ∷ 0x03 ∷ 0x2E ∷ 0x00 ∷ 0x11 ∷ 0x01 ∷ 0x12 ∷ 0x0F ∷ 0x03 ∷ 0x0E ∷ 0x3A ∷ 0x0F ∷ 0x3B ∷ 0x0F ∷ 0x00 ∷ 0x00 ∷ 0x00 ∷ []

-- one line an entry, from 88, 111, 118, 125, 132 and 139 on
abbrev content_simulated : List ℕ
content_simulated =
    0x01 ∷ 0x1C ∷ 0x00 ∷ 0x00 ∷ 0x00 ∷ 0x1D ∷ 0x00 ∷ 0x6C ∷ 0x00 ∷ 0x00 ∷ 0x00 ∷ 0x00 ∷ 0x00 ∷ 0x00 ∷ 0x00 ∷ 0x73 ∷ 0x00 ∷ 0x00 ∷ 0x00 ∷ 0x00 ∷ 0x00 ∷ 0x00 ∷ 0x00
    ∷ 0x02 ∷ 0x76 ∷ 0x00 ∷ 0x00 ∷ 0x00 ∷ 0x04 ∷ 0x05
    ∷ 0x02 ∷ 0x7A ∷ 0x00 ∷ 0x00 ∷ 0x00 ∷ 0x08 ∷ 0x05
    ∷ 0x02 ∷ 0x7E ∷ 0x00 ∷ 0x00 ∷ 0x00 ∷ 0x04 ∷ 0x04
    ∷ 0x02 ∷ 0x82 ∷ 0x00 ∷ 0x00 ∷ 0x00 ∷ 0x08 ∷ 0x04
    ∷ 0x03 ∷ 0x00 ∷ 0x00 ∷ 0x00 ∷ 0x00 ∷ 0x00 ∷ 0x00 ∷ 0x00 ∷ 0x00 ∷ 0x1E ∷ 0x86 ∷ 0x00 ∷ 0x00 ∷ 0x00 ∷ 0x01 ∷ 0x19
    ∷ 0x00 ∷ []

abbrev info_simulated : List ℕ
info_simulated = 0x4B ∷ 0x00 ∷ 0x00 ∷ 0x00 ∷ 0x04 ∷ 0x00 ∷ 0x44 ∷ 0x00 ∷ 0x00 ∷ 0x00 ∷ 0x08 ∷ content_simulated

-- the one file, in directory 0
abbrev line_header_simulated : List ℕ
line_header_simulated = 0x4E ∷ 0x00 ∷ 0x00 ∷ 0x00 ∷ 0x04 ∷ 0x00 ∷ 0x1E ∷ 0x00 ∷ 0x00 ∷ 0x00 ∷ 0x01 ∷ 0x01 ∷ 0x01 ∷ 0xFB ∷ 0x0E ∷ 0x0D ∷ 0x00 ∷ 0x01 ∷ 0x01 ∷ 0x01 ∷ 0x01 ∷ 0x00 ∷ 0x00 ∷ 0x00 ∷ 0x01 ∷ 0x00 ∷ 0x00 ∷ 0x01 ∷ 0x00 ∷ 0x67 ∷ 0x2E ∷ 0x77 ∷ 0x61 ∷ 0x73 ∷ 0x6D ∷ 0x00 ∷ 0x00 ∷ 0x00 ∷ 0x00 ∷ 0x00 ∷ []

-- the row at 0, of line 0; that at 5, of line 25, where the prologue ends; and that at 15, of line 30
abbrev line_program_simulated : List ℕ
line_program_simulated =
    0x00 ∷ 0x09 ∷ 0x02 ∷ 0x00 ∷ 0x00 ∷ 0x00 ∷ 0x00 ∷ 0x00 ∷ 0x00 ∷ 0x00 ∷ 0x00
    ∷ 0x00 ∷ 0x02 ∷ 0x04 ∷ 0x01 ∷ 0x03 ∷ 0x7F ∷ 0x01
    ∷ 0x00 ∷ 0x02 ∷ 0x04 ∷ 0x01 ∷ 0x0A ∷ 0x03 ∷ 0x19 ∷ 0x02 ∷ 0x05 ∷ 0x01
    ∷ 0x00 ∷ 0x02 ∷ 0x04 ∷ 0x01 ∷ 0x03 ∷ 0x05 ∷ 0x02 ∷ 0x0A ∷ 0x01
    ∷ 0x02 ∷ 0x0F ∷ 0x00 ∷ 0x01 ∷ 0x01 ∷ []

-- from the function's begin to its end, and the end of the list
abbrev ranges_simulated : List ℕ
ranges_simulated = 0x00 ∷ 0x00 ∷ 0x00 ∷ 0x00 ∷ 0x00 ∷ 0x00 ∷ 0x00 ∷ 0x00 ∷ 0x1E ∷ 0x00 ∷ 0x00 ∷ 0x00 ∷ 0x00 ∷ 0x00 ∷ 0x00 ∷ 0x00 ∷ 0x00 ∷ 0x00 ∷ 0x00 ∷ 0x00 ∷ 0x00 ∷ 0x00 ∷ 0x00 ∷ 0x00 ∷ 0x00 ∷ 0x00 ∷ 0x00 ∷ 0x00 ∷ 0x00 ∷ 0x00 ∷ 0x00 ∷ 0x00 ∷ []

-- behind those of the module's synthetic unit, at 108, 115, 118, 122, 126, 130 and 134
abbrev texts_simulated : List ℕ
texts_simulated = texts_ended (codes "g.wasm" ∷ codes "/m" ∷ codes "i32" ∷ codes "i64" ∷ codes "f32" ∷ codes "f64" ∷ codes "wasm-function[0]" ∷ [])

-- ---- the output

abbrev to_function : ℕ → ℕ → OutputRelocation
to_function offset addend = record { offset = offset; size = 8; target = function 0; addend = pos addend }

abbrev relocations_simulated : List OutputRelocation
relocations_simulated =
    to_section 83 (codes ".debug_abbrev") 68
    ∷ to_section 89 (codes ".debug_str") 28
    ∷ to_section 95 (codes ".debug_str") 108
    ∷ to_section 99 (codes ".debug_line") 0
    ∷ to_section 103 (codes ".debug_str") 115
    ∷ to_section 107 (codes ".debug_ranges") 0
    ∷ to_section 112 (codes ".debug_str") 118
    ∷ to_section 119 (codes ".debug_str") 122
    ∷ to_section 126 (codes ".debug_str") 126
    ∷ to_section 133 (codes ".debug_str") 130
    ∷ record { offset = 140; size = 8; target = function 0; addend = pos 0 }
    ∷ to_section 149 (codes ".debug_str") 134 ∷ []

-- with other entries of .debug_info, or another line program
abbrev output_with : List ℕ → List ℕ → List OutputSection
output_with info program =
    a_section (codes ".debug_abbrev") (synthetic_abbreviations ++ abbreviations_simulated) []
    ∷ a_section (codes ".debug_info") (synthetic_info ++ info) (synthetic_relocations ++ relocations_simulated)
    ∷ a_section (codes ".debug_line") (line_header_simulated ++ program) (to_function 43 0 ∷ [])
    ∷ a_section (codes ".debug_ranges") ranges_simulated (to_function 0 0 ∷ to_function 8 30 ∷ [])
    ∷ a_section (codes ".debug_str") (synthetic_texts ++ texts_simulated) [] ∷ []

abbrev pub output_simulated : List OutputSection
output_simulated = output_with info_simulated line_program_simulated

-- ---- what it says

-- the trees that are wanted of the small module whose subprogram begins at 0
abbrev trees_simulated : List Tree
trees_simulated = synthetic_tree 0 ∷ simulated_front (codes "g.wasm") (codes "/m") (interval_of 0 (0, 30) ∷ []) (simulated_function 0 30 (codes "wasm-function[0]") 25 ∷ []) ∷ []

wanted-simulated : trees_of Little 0 (named_small (told_with abbreviations_small info_0 line_small) ∷ []) ≡ trees_simulated
unfolding simulated_on_literals
wanted-simulated = refl

carries-simulated : CarriesTrees Little trees_simulated output_simulated
unfolding simulated_on_literals ranges_read
carries-simulated = refl

texts-simulated : HasTextsOnce (output_sections Little output_simulated)
unfolding simulated_on_literals
texts-simulated = refl

-- each field has its relocation, in the order of the fields
relocated-info : relocations_of_fields (fields_of_section (output_sections Little output_simulated) Info) ≡ synthetic_relocations ++ relocations_simulated
unfolding simulated_on_literals fields_of_section fields_at fields_of_entry
relocated-info = refl

relocated-line : relocations_of_fields (fields_of_section (output_sections Little output_simulated) Line) ≡ to_function 43 0 ∷ []
unfolding simulated_on_literals fields_of_section fields_of_line_table fields_of_instructions header_paths_at
relocated-line = refl

relocated-ranges : relocations_of_fields (fields_of_section (output_sections Little output_simulated) Ranges) ≡ to_function 0 0 ∷ to_function 8 30 ∷ []
unfolding simulated_on_literals fields_of_section fields_of_named
relocated-ranges = refl

-- ---- its lines

-- the segments of its units
abbrev segments_said : List OutputSection → List (Result (List Segment) Fault)
segments_said s = map (segments_of_unit (output_sections Little s)) (units (output_sections Little s)).items

abbrev segment_simulated : Segment
segment_simulated = simulated_segment (codes "g.wasm") 20 function_small

segments-simulated : segments_said output_simulated ≡ Ok [] ∷ Ok (segment_simulated ∷ []) ∷ []
unfolding simulated_on_literals
segments-simulated = refl

-- so the simulated unit has the lines that are wanted of it
pub lines-simulated : CarriesSimulated 4 (output_sections Little output_simulated) (codes "g.wasm") ((20, function_small) ∷ []) (unit_of 1 output_simulated)
unfolding simulated_on_literals
lines-simulated = record { made = table_of 1 output_simulated; made_read = refl; version_is = refl; directories = refl; files = refl; each = (simulated_segment-is (codes "g.wasm") 20 function_small refl refl, tt) }

-- ---- wrong lines

abbrev IsWanted : Segment → Type 0
IsWanted q = IsSimulated (codes "g.wasm") 20 function_small q

-- it ends one byte early
not-early : IsWanted (record segment_simulated { end = Some 29 }) → ⊥
not-early h = let same : 29 ≡ 30 = ap (λ o. unwrap_or o 0) h.ends in omega (arith, same)

-- the line of a row, and whether the prologue ends there
abbrev line_of : Option RowContents → ℕ
line_of None = 0
line_of (Some r) = r.line

abbrev prologues_of : Option RowContents → ℕ
prologues_of None = 0
prologues_of (Some r) = elim r.prologue_end [ true ↦ 1 | false ↦ 0 ]

-- segments with the rows at 5 and 15 as they are given
abbrev with_rows : ℕ → ℕ → Segment
with_rows at_5 at_15 = record segment_simulated {
  rows =
      record { offset = 0; source = simulated_contents (codes "g.wasm") 0 false }
      ∷ record { offset = 5; source = simulated_contents (codes "g.wasm") at_5 false }
      ∷ record { offset = 15; source = simulated_contents (codes "g.wasm") at_15 false } ∷ [];
}

-- its last line counts from the contents of the code section, its second row does not end the prologue, and before its first source it has
-- the line of that
not-wasm_offset : IsWanted (with_rows 25 10) → ⊥
not-wasm_offset h = let same : 10 ≡ 30 = ap line_of (h.agrees 15 (lit< tt)) in omega (arith, same)

not-without_prologue : IsWanted (with_rows 25 30) → ⊥
not-without_prologue h = let same : 0 ≡ 1 = ap prologues_of (h.agrees 5 (lit< tt)) in omega (arith, same)

not-from_0 : IsWanted (record segment_simulated { rows = record { offset = 0; source = simulated_contents (codes "g.wasm") 25 true } ∷ [] }) → ⊥
not-from_0 h = let same : 25 ≡ 0 = ap line_of (h.agrees 4 (lit< tt)) in omega (arith, same)

-- it has a row more, wherever this stands and whatever it says
abbrev with_row : ℕ → ℕ → Segment
with_row offset line = record segment_simulated { rows = record { offset = offset; source = simulated_contents (codes "g.wasm") line false } ∷ segment_simulated.rows }

not-with_row : (offset line : ℕ) → IsWanted (with_row offset line) → ⊥
not-with_row offset line h = let same : 4 ≡ 3 = ap length h.rows in omega (arith, same)
