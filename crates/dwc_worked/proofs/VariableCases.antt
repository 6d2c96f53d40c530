-- A variable on a frame base whose value lies in a register: over a part of its scope, over all of it, and where that is refused.
use Rattle.std.proofs.Common.{◌≡◌, ℕ, pos, List, [], ◌∷◌, Some, None, refl}
use Rattle.std.specs.Option.{unwrap_or}
use Rattle.dwc_base.specs.declared.records.Endian.TheVariants.{Little}
use Rattle.dwc_base.specs.declared.records.Address.TheVariants.{Symbol}
use Rattle.dwc_base.specs.declared.faults.What.TheVariants.{Expression}
use Rattle.dwc_base.specs.declared.section_name.SectionName.TheVariants.{Info}
use Rattle.dwc_base.specs.Reading.{coded}
use Rattle.dwc_base.specs.Sections.{unreadable}
use Rattle.dwc_rules.specs.Carried.{Compilation}
use Rattle.dwc_base.specs.ToldFiles.{bare_file}
use Rattle.dwc_native.specs.Runs.{interval_of}
use Rattle.dwc_dwarf.specs.Trees.{Tree, TreeValue, address, constant, line_table, expression, locations}
use Rattle.dwc_native.specs.Compiled.{in_register, LabelRange, Memory, no_memory, defined}
use Rattle.dwc_native.specs.Parts.{context_label}
use Rattle.dwc_rules.specs.Refusals.{of_place, bad_label, lacks_memory, unmapped_register}
use Rattle.dwc_carried.specs.Forests.{first_refusal, module_trees}
use Rattle.dwc_worked.proofs.SmallModule.{line_small, told_small}
use Rattle.dwc_worked.proofs.SyntheticTrees.{synthetic_tree_with, context_entry}
use Rattle.dwc_worked.proofs.Readings.{three_sections}
use Rattle.dwc_worked.proofs.LineTables.{function_small}
use Rattle.dwc_worked.proofs.DraftsOnLiterals.{drafts_on_literals}

-- a subprogram with a frame base and, below it, a variable with a location
abbrev pub abbreviations_variable : List ℕ
abbreviations_variable = 0x01 ∷ 0x11 ∷ 0x01 ∷ 0x10 ∷ 0x17 ∷ 0x00 ∷ 0x00 ∷ 0x02 ∷ 0x2E ∷ 0x01 ∷ 0x11 ∷ 0x01 ∷ 0x12 ∷ 0x06 ∷ 0x40 ∷ 0x18 ∷ 0x00 ∷ 0x00 ∷ 0x03 ∷ 0x34 ∷ 0x00 ∷ 0x02 ∷ 0x18 ∷ 0x00 ∷ 0x00 ∷ 0x00 ∷ []

-- the frame base is local 3, and the location 18 behind it
abbrev pub info_variable : List ℕ
info_variable = 0x20 ∷ 0x00 ∷ 0x00 ∷ 0x00 ∷ 0x04 ∷ 0x00 ∷ 0x00 ∷ 0x00 ∷ 0x00 ∷ 0x00 ∷ 0x04 ∷ 0x01 ∷ 0x00 ∷ 0x00 ∷ 0x00 ∷ 0x00 ∷ 0x02 ∷ 0x02 ∷ 0x00 ∷ 0x00 ∷ 0x00 ∷ 0x0B ∷ 0x00 ∷ 0x00 ∷ 0x00 ∷ 0x04 ∷ 0xED ∷ 0x00 ∷ 0x03 ∷ 0x9F ∷ 0x03 ∷ 0x02 ∷ 0x91 ∷ 0x12 ∷ 0x00 ∷ 0x00 ∷ []

-- the same whose location is an operation that lacks its operand
abbrev pub info_cut : List ℕ
info_cut = 0x20 ∷ 0x00 ∷ 0x00 ∷ 0x00 ∷ 0x04 ∷ 0x00 ∷ 0x00 ∷ 0x00 ∷ 0x00 ∷ 0x00 ∷ 0x04 ∷ 0x01 ∷ 0x00 ∷ 0x00 ∷ 0x00 ∷ 0x00 ∷ 0x02 ∷ 0x02 ∷ 0x00 ∷ 0x00 ∷ 0x00 ∷ 0x0B ∷ 0x00 ∷ 0x00 ∷ 0x00 ∷ 0x04 ∷ 0xED ∷ 0x00 ∷ 0x03 ∷ 0x9F ∷ 0x03 ∷ 0x02 ∷ 0x31 ∷ 0x10 ∷ 0x00 ∷ 0x00 ∷ []

-- a range in a register
abbrev pub in_range : ℕ → ℕ → ℕ → LabelRange
in_range register start end = record { place = in_register register; start = start; end = end }

-- local 3 has some ranges, and the context is in register 2 everywhere
abbrev pub labels_of : List LabelRange → ℕ → List LabelRange
labels_of local_3 label = unwrap_or (coded ((3, local_3) ∷ (context_label, in_range 2 0 30 ∷ []) ∷ []) label) []

abbrev pub compilation_of : List ℕ → List LabelRange → Memory → List (ℕ × ℕ) → Compilation
compilation_of info local_3 memory registers = record {
  order = Little;
  pointer_bytes = 8;
  modules = record {
    sections = three_sections abbreviations_variable info line_small;
    functions = function_small ∷ [];
    told = record told_small { values = λ function. labels_of local_3; memory = memory; register = coded registers };
    file = bare_file 20;
    compressed = None;
    version = 4;
  } ∷ [];
  next_id = 0;
  common_entry = None;
  version = 4;
}

abbrev pub numbered : List (ℕ × ℕ)
numbered = (1, 12) ∷ (2, 14) ∷ []

-- the tree, by what the location is; the context lies in register 14 all over
abbrev pub tree_of : TreeValue → Tree
tree_of location =
    record { depth = 0; tag = 0x11; attributes = (0x10, line_table) ∷ [] }
    ∷ record { depth = 1; tag = 0x2E; attributes = (0x11, address (Symbol 0 (pos 0))) ∷ (0x12, constant 0x0F 30) ∷ (0x40, expression (0x9C ∷ [])) ∷ [] }
    ∷ context_entry 2 0 7 (record { over = interval_of 0 (0, 30); bytes = 0x5E ∷ [] } ∷ [])
    ∷ record { depth = 2; tag = 0x34; attributes = (0x02, location) ∷ [] } ∷ []

abbrev pub built : List ℕ
built = 0x7C ∷ 0x00 ∷ 0x23 ∷ 0x12 ∷ 0x7E ∷ 0xD0 ∷ 0x00 ∷ 0x06 ∷ 0x16 ∷ 0x0C ∷ 0xFF ∷ 0xFF ∷ 0xFF ∷ 0xFF ∷ 0x1A ∷ 0x22 ∷ []

-- over the first 20 of 30 bytes a list
on_a_part : module_trees (compilation_of info_variable (in_range 1 0 20 ∷ []) (defined 80) numbered) ≡ synthetic_tree_with 0 80 ∷ tree_of (locations (record { over = interval_of 0 (0, 20); bytes = built } ∷ [])) ∷ []
unfolding drafts_on_literals
on_a_part = refl

-- over all of them the expression itself
on_the_whole : module_trees (compilation_of info_variable (in_range 1 0 30 ∷ []) (defined 80) numbered) ≡ synthetic_tree_with 0 80 ∷ tree_of (expression built) ∷ []
unfolding drafts_on_literals
on_the_whole = refl

-- ---- refusals

refused-label : first_refusal (compilation_of info_variable (in_range 1 9 4 ∷ []) (defined 80) numbered) ≡ Some (bad_label 3)
unfolding drafts_on_literals
refused-label = refl

refused-memory : first_refusal (compilation_of info_variable (in_range 1 0 20 ∷ []) no_memory numbered) ≡ Some (lacks_memory 0)
unfolding drafts_on_literals
refused-memory = refl

refused-register : first_refusal (compilation_of info_variable (in_range 1 0 20 ∷ []) (defined 80) ((2, 14) ∷ [])) ≡ Some (unmapped_register 1)
unfolding drafts_on_literals
refused-register = refl

-- an expression that cannot be read is told at its first byte
refused-cut : first_refusal (compilation_of info_cut (in_range 1 0 20 ∷ []) (defined 80) numbered) ≡ Some (of_place (unreadable Expression Info 32))
unfolding drafts_on_literals
refused-cut = refl
