-- An output for the small module with all its units, worked out by hand: the module's synthetic one, the carried one, and the simulated
-- one, which lists no function.
use Rattle.std.proofs.Common.{ℕ, List, [], ◌∷◌, ◌++◌, get_or}
use Rattle.std.specs.Prelude.{codes}
use Rattle.dwc_base.specs.Outputs.{OutputRelocation, OutputSection}
use Rattle.dwc_dwarf.specs.Trees.{Tree}
use Rattle.dwc_dwarf.specs.TreeLaws.{texts_ended}
use Rattle.dwc_worked.proofs.CarriedSmall.{output_small}
use Rattle.dwc_worked.proofs.SyntheticTrees.{synthetic_tree, to_section}
use Rattle.dwc_worked.proofs.SimulatedInputs.{simulated_front}
use Rattle.dwc_worked.proofs.TreeInputs.{a_section}
use Rattle.dwc_worked.proofs.TreesSmall.{tree_small}
use Rattle.dwc_worked.proofs.OutputParts.{no_section}

-- the declarations of the root and of the types, at 96
abbrev abbreviations_simulated : List ℕ
abbreviations_simulated =
    0x01 ∷ 0x11 ∷ 0x01 ∷ 0x25 ∷ 0x0E ∷ 0x13 ∷ 0x05 ∷ 0x03 ∷ 0x0E ∷ 0x10 ∷ 0x17 ∷ 0x1B ∷ 0x0E ∷ 0x55 ∷ 0x17 ∷ 0x00 ∷ 0x00
    ∷ 0x02 ∷ 0x24 ∷ 0x00 ∷ 0x03 ∷ 0x0E ∷ 0x0B ∷ 0x0B ∷ 0x3E ∷ 0x0B ∷ 0x00 ∷ 0x00 ∷ 0x00 ∷ []

-- the header, at 118, and one line an entry, from 129, 152, 159, 166 and 173 on
abbrev info_simulated : List ℕ
info_simulated =
    0x3B ∷ 0x00 ∷ 0x00 ∷ 0x00 ∷ 0x04 ∷ 0x00 ∷ 0x60 ∷ 0x00 ∷ 0x00 ∷ 0x00 ∷ 0x08
    ∷ 0x01 ∷ 0x1C ∷ 0x00 ∷ 0x00 ∷ 0x00 ∷ 0x1D ∷ 0x00 ∷ 0x74 ∷ 0x00 ∷ 0x00 ∷ 0x00 ∷ 0x3D ∷ 0x00 ∷ 0x00 ∷ 0x00 ∷ 0x7B ∷ 0x00 ∷ 0x00 ∷ 0x00 ∷ 0x00 ∷ 0x00 ∷ 0x00 ∷ 0x00
    ∷ 0x02 ∷ 0x7E ∷ 0x00 ∷ 0x00 ∷ 0x00 ∷ 0x04 ∷ 0x05
    ∷ 0x02 ∷ 0x82 ∷ 0x00 ∷ 0x00 ∷ 0x00 ∷ 0x08 ∷ 0x05
    ∷ 0x02 ∷ 0x86 ∷ 0x00 ∷ 0x00 ∷ 0x00 ∷ 0x04 ∷ 0x04
    ∷ 0x02 ∷ 0x8A ∷ 0x00 ∷ 0x00 ∷ 0x00 ∷ 0x08 ∷ 0x04
    ∷ 0x00 ∷ []

-- the one file, in directory 0, at 61
abbrev line_simulated : List ℕ
line_simulated =
    0x24 ∷ 0x00 ∷ 0x00 ∷ 0x00 ∷ 0x04 ∷ 0x00 ∷ 0x1E ∷ 0x00 ∷ 0x00 ∷ 0x00
    ∷ 0x01 ∷ 0x01 ∷ 0x01 ∷ 0xFB ∷ 0x0E ∷ 0x0D ∷ 0x00 ∷ 0x01 ∷ 0x01 ∷ 0x01 ∷ 0x01 ∷ 0x00 ∷ 0x00 ∷ 0x00 ∷ 0x01 ∷ 0x00 ∷ 0x00 ∷ 0x01
    ∷ 0x00 ∷ 0x67 ∷ 0x2E ∷ 0x77 ∷ 0x61 ∷ 0x73 ∷ 0x6D ∷ 0x00 ∷ 0x00 ∷ 0x00 ∷ 0x00 ∷ 0x00 ∷ []

-- the end of a list, which is all of an empty one
abbrev ranges_simulated : List ℕ
ranges_simulated = 0x00 ∷ 0x00 ∷ 0x00 ∷ 0x00 ∷ 0x00 ∷ 0x00 ∷ 0x00 ∷ 0x00 ∷ 0x00 ∷ 0x00 ∷ 0x00 ∷ 0x00 ∷ 0x00 ∷ 0x00 ∷ 0x00 ∷ 0x00 ∷ []

-- at 116, 123, 126, 130, 134 and 138
abbrev texts_simulated : List ℕ
texts_simulated = texts_ended (codes "g.wasm" ∷ codes "/m" ∷ codes "i32" ∷ codes "i64" ∷ codes "f32" ∷ codes "f64" ∷ [])

abbrev relocations_simulated : List OutputRelocation
relocations_simulated =
    to_section 124 (codes ".debug_abbrev") 96
    ∷ to_section 130 (codes ".debug_str") 28
    ∷ to_section 136 (codes ".debug_str") 116
    ∷ to_section 140 (codes ".debug_line") 61
    ∷ to_section 144 (codes ".debug_str") 123
    ∷ to_section 148 (codes ".debug_ranges") 0
    ∷ to_section 153 (codes ".debug_str") 126
    ∷ to_section 160 (codes ".debug_str") 130
    ∷ to_section 167 (codes ".debug_str") 134
    ∷ to_section 174 (codes ".debug_str") 138 ∷ []

-- a section of the units for the module
abbrev part_of : ℕ → OutputSection
part_of place = get_or output_small place no_section

-- with another line program of the carried unit
abbrev pub output_with : List ℕ → List OutputSection
output_with lines =
    a_section (codes ".debug_abbrev") ((part_of 0).body ++ abbreviations_simulated) []
    ∷ a_section (codes ".debug_info") ((part_of 1).body ++ info_simulated) ((part_of 1).relocations ++ relocations_simulated)
    ∷ a_section (codes ".debug_line") (lines ++ line_simulated) (part_of 2).relocations
    ∷ a_section (codes ".debug_ranges") ranges_simulated []
    ∷ part_of 3
    ∷ a_section (codes ".debug_str") ((part_of 4).body ++ texts_simulated) [] ∷ []

abbrev pub output_whole : List OutputSection
output_whole = output_with (part_of 2).body

-- what it says
abbrev pub trees_whole : List Tree
trees_whole = synthetic_tree 0 ∷ tree_small ∷ simulated_front (codes "g.wasm") (codes "/m") [] [] ∷ []
