-- The synthetic unit of a module for each kind of memory, the places in it that others refer to, and where a memory is too far.
use Rattle.std.proofs.Common.{◌≡◌, ℕ, suc, List, [], ◌∷◌, map, Some, None, true, false, refl}
use Rattle.std.specs.Prelude.{◌==◌, ◌&&◌, Bool, IsTrue, codes, nat_le, nat_lt, slice_get}
use Rattle.dwc_base.specs.declared.records.Endian.TheVariants.{Big, Little}
use Rattle.dwc_base.specs.declared.faults.Kind.TheVariants.{Compressed}
use Rattle.dwc_base.specs.declared.faults.What.TheVariants.{LineTable as LineTableRead}
use Rattle.dwc_base.specs.declared.section_name.SectionName.TheVariants.{Line}
use Rattle.dwc_base.specs.Sections.{unreadable, unsupported}
use Rattle.dwc_rules.specs.Carried.{Module}
use Rattle.dwc_native.specs.Compiled.{Memory, no_memory, defined, imported}
use Rattle.dwc_rules.specs.Drafts.{synthetic_entry, goes_to, Draft}
use Rattle.dwc_rules.specs.DraftForests.{forest}
use Rattle.dwc_carried.specs.Forests.{module_trees}
use Rattle.dwc_rules.specs.MadeEntries.{named, data1, made}
use Rattle.dwc_rules.specs.SyntheticUnit.{place_of_context_pointer, place_of_wasm_pointer, is_too_far, synthetic_unit}
use Rattle.dwc_base.specs.Outputs.{OutputSection, output_sections}
use Rattle.dwc_rules.specs.Refusals.{of_place, long_function, far_memory}
use Rattle.dwc_dwarf.specs.TreeLaws.{HasAllTargets, HasTextsOnce, texts_ended}
use Rattle.dwc_output.specs.TreeReading.{CarriesTrees}
use Rattle.dwc_dwarf.specs.Trees.{text, Tree}
use Rattle.dwc_worked.proofs.DraftsOnLiterals.{drafts_on_literals}
use Rattle.dwc_worked.proofs.SyntheticTrees.{synthetic_tree, synthetic_tree_with}
use Rattle.dwc_worked.proofs.RefusalCases.{refusal_of, long_module}
use Rattle.dwc_worked.proofs.SmallModule.{abbreviations_small, info_small, line_small, told_small}
use Rattle.dwc_worked.proofs.TreeInputs.{a_section}
use Rattle.dwc_worked.proofs.TreesSmall.{tree_with_synthetic}
use Rattle.dwc_worked.proofs.Variants.{module_with}

-- ---- whole units

-- the synthetic units alone of modules with some memories
abbrev synthetic_trees : List Memory → List Tree
synthetic_trees ms = forest (map (λ m. record { synthetic = Some (synthetic_unit (codes "set_mem") m); carried = [] }) ms) None

-- without a memory, with their own at any offset, and with that of another
synthetic-units : (offset a b : ℕ) → synthetic_trees (no_memory ∷ defined offset ∷ imported a b ∷ []) ≡ synthetic_tree 0 ∷ synthetic_tree_with 1 offset ∷ synthetic_tree 2 ∷ []
unfolding drafts_on_literals
synthetic-units offset a b = refl

-- ---- file order

-- whether depths go on behind one of them: each below the root, and at most one below the one before it
abbrev go_on : ℕ → List ℕ → Bool
go_on before [] = true
go_on before (d ∷ ds) = nat_lt 0 d && nat_le d (suc before) && go_on d ds

-- whether entries are the tree of a unit: the root first, and no other entry at its depth
abbrev are_whole : List ℕ → Bool
are_whole [] = false
are_whole (d ∷ ds) = (d == 0) && go_on 0 ds

abbrev IsWholeUnit : Memory → Type 0
IsWholeUnit m = (name : List ℕ) → IsTrue (are_whole (map (λ d. d.depth) (synthetic_unit name m)))

whole-none : IsWholeUnit no_memory
unfolding synthetic_unit
whole-none name = refl

whole-defined : (offset : ℕ) → IsWholeUnit (defined offset)
unfolding synthetic_unit
whole-defined offset name = refl

whole-imported : (a b : ℕ) → IsWholeUnit (imported a b)
unfolding synthetic_unit
whole-imported a b name = refl

-- ---- places

abbrev pointer_to_context : Draft
pointer_to_context = made 1 0x0F (named 0x03 (text (codes "WasmtimeVMContext*")) ∷ (0x49, goes_to (synthetic_entry 3)) ∷ [])

abbrev address_in_memory : Draft
address_in_memory = made 1 0x24 (named 0x03 (text (codes "WebAssemblyPtr")) ∷ named 0x0B (data1 4) ∷ named 0x3E (data1 7) ∷ [])

-- both places, for a unit of a memory
abbrev HasPlaces : List ℕ → Memory → Type 0
HasPlaces name m = (slice_get (synthetic_unit name m) (place_of_context_pointer m) ≡ Some pointer_to_context) × (slice_get (synthetic_unit name m) (place_of_wasm_pointer m) ≡ Some address_in_memory)

places-none : (name : List ℕ) → HasPlaces name no_memory
unfolding synthetic_unit
places-none name = (refl, refl)

places-defined : (name : List ℕ) (offset : ℕ) → HasPlaces name (defined offset)
unfolding synthetic_unit
places-defined name offset = (refl, refl)

places-imported : (name : List ℕ) (a b : ℕ) → HasPlaces name (imported a b)
unfolding synthetic_unit
places-imported name a b = (refl, refl)

-- ---- in front of the carried units of each module

-- the small module with a memory, and another table of lines
abbrev with_memory : Memory → List ℕ → Module
with_memory memory lines = record (module_with abbreviations_small info_small lines) { told = record told_small { memory = memory } }

-- a module without debugging sections
abbrev without_sections : Memory → Module
without_sections memory = record (module_with [] [] []) { told = record told_small { memory = memory } }

-- four modules, of which the second and the last have a carried unit, each with its own context
in-front : module_trees (record {
  order = Little;
  pointer_bytes = 8;
  modules = without_sections no_memory ∷ with_memory (defined 0) line_small ∷ without_sections (defined 80) ∷ with_memory (imported 8 16) line_small ∷ [];
  next_id = 0;
  common_entry = None;
  version = 4;
})
    ≡ synthetic_tree 0 ∷ synthetic_tree_with 1 0 ∷ tree_with_synthetic 1 7 ∷ synthetic_tree_with 3 80 ∷ synthetic_tree 4 ∷ tree_with_synthetic 4 6 ∷ []
unfolding drafts_on_literals
in-front = refl

-- its constants are the same for a target of the other byte order
other-order : module_trees (record { order = Big; pointer_bytes = 4; modules = without_sections (defined 80) ∷ []; next_id = 0; common_entry = None; version = 4 }) ≡ synthetic_tree_with 0 80 ∷ []
unfolding drafts_on_literals
other-order = refl

-- no module has no unit
no-modules : module_trees (record { order = Little; pointer_bytes = 8; modules = []; next_id = 0; common_entry = None; version = 4 }) ≡ []
unfolding drafts_on_literals
no-modules = refl

-- ---- an output

-- the unit of a memory at 300 alone, for a target of the other byte order with addresses of 4 bytes
abbrev abbreviations_300 : List ℕ
abbreviations_300 =
    0x01 ∷ 0x11 ∷ 0x01 ∷ 0x03 ∷ 0x0E ∷ 0x25 ∷ 0x0E ∷ 0x13 ∷ 0x05 ∷ 0x00 ∷ 0x00
    ∷ 0x02 ∷ 0x24 ∷ 0x00 ∷ 0x03 ∷ 0x0E ∷ 0x3E ∷ 0x0B ∷ 0x0B ∷ 0x0B ∷ 0x00 ∷ 0x00
    ∷ 0x03 ∷ 0x0F ∷ 0x00 ∷ 0x03 ∷ 0x0E ∷ 0x49 ∷ 0x13 ∷ 0x00 ∷ 0x00
    ∷ 0x04 ∷ 0x13 ∷ 0x01 ∷ 0x03 ∷ 0x0E ∷ 0x0B ∷ 0x06 ∷ 0x00 ∷ 0x00
    ∷ 0x05 ∷ 0x0D ∷ 0x00 ∷ 0x03 ∷ 0x0E ∷ 0x49 ∷ 0x13 ∷ 0x38 ∷ 0x0F ∷ 0x00 ∷ 0x00
    ∷ 0x06 ∷ 0x2E ∷ 0x01 ∷ 0x6E ∷ 0x0E ∷ 0x03 ∷ 0x0E ∷ 0x00 ∷ 0x00
    ∷ 0x07 ∷ 0x05 ∷ 0x00 ∷ 0x49 ∷ 0x13 ∷ 0x34 ∷ 0x0C ∷ 0x00 ∷ 0x00
    ∷ 0x08 ∷ 0x24 ∷ 0x00 ∷ 0x03 ∷ 0x0E ∷ 0x0B ∷ 0x0B ∷ 0x3E ∷ 0x0B ∷ 0x00 ∷ 0x00
    ∷ 0x00 ∷ []

abbrev info_300 : List ℕ
info_300 =
    0x00 ∷ 0x00 ∷ 0x00 ∷ 0x58 ∷ 0x00 ∷ 0x04 ∷ 0x00 ∷ 0x00 ∷ 0x00 ∷ 0x00 ∷ 0x04
    ∷ 0x01 ∷ 0x00 ∷ 0x00 ∷ 0x00 ∷ 0x00 ∷ 0x00 ∷ 0x00 ∷ 0x00 ∷ 0x1C ∷ 0x00 ∷ 0x1D
    ∷ 0x02 ∷ 0x00 ∷ 0x00 ∷ 0x00 ∷ 0x25 ∷ 0x07 ∷ 0x01
    ∷ 0x03 ∷ 0x00 ∷ 0x00 ∷ 0x00 ∷ 0x28 ∷ 0x00 ∷ 0x00 ∷ 0x00 ∷ 0x16
    ∷ 0x04 ∷ 0x00 ∷ 0x00 ∷ 0x00 ∷ 0x2C ∷ 0x00 ∷ 0x00 ∷ 0x01 ∷ 0x34
    ∷ 0x05 ∷ 0x00 ∷ 0x00 ∷ 0x00 ∷ 0x3E ∷ 0x00 ∷ 0x00 ∷ 0x00 ∷ 0x1D ∷ 0xAC ∷ 0x02
    ∷ 0x06 ∷ 0x00 ∷ 0x00 ∷ 0x00 ∷ 0x45 ∷ 0x00 ∷ 0x00 ∷ 0x00 ∷ 0x4D
    ∷ 0x07 ∷ 0x00 ∷ 0x00 ∷ 0x00 ∷ 0x4B ∷ 0x01 ∷ 0x00 ∷ 0x00
    ∷ 0x03 ∷ 0x00 ∷ 0x00 ∷ 0x00 ∷ 0x51 ∷ 0x00 ∷ 0x00 ∷ 0x00 ∷ 0x26
    ∷ 0x08 ∷ 0x00 ∷ 0x00 ∷ 0x00 ∷ 0x64 ∷ 0x04 ∷ 0x07 ∷ 0x00 ∷ []

-- at 0, 28, 37, 40, 44, 62, 69, 77, 81 and 100
abbrev texts_300 : List ℕ
texts_300 = texts_ended (
    codes "WasmtimeModuleSyntheticUnit"
    ∷ codes "wasmtime"
    ∷ codes "u8"
    ∷ codes "u8*"
    ∷ codes "WasmtimeVMContext"
    ∷ codes "memory"
    ∷ codes "set_mem"
    ∷ codes "set"
    ∷ codes "WasmtimeVMContext*"
    ∷ codes "WebAssemblyPtr" ∷ [])

abbrev output_300 : List OutputSection
output_300 = a_section (codes ".debug_abbrev") abbreviations_300 [] ∷ a_section (codes ".debug_info") info_300 [] ∷ a_section (codes ".debug_str") texts_300 [] ∷ []

carries-300 : CarriesTrees Big (synthetic_tree_with 0 300 ∷ []) output_300
unfolding drafts_on_literals
carries-300 = refl

texts-300 : HasTextsOnce (output_sections Big output_300)
unfolding drafts_on_literals
texts-300 = refl

-- every reference of such units goes to an entry
targets-synthetic : (offset : ℕ) → HasAllTargets (synthetic_tree 0 ∷ synthetic_tree_with 1 offset ∷ [])
targets-synthetic offset = refl

-- ---- the limit of the context's size

too-far : map is_too_far (no_memory ∷ imported 4294967295 4294967295 ∷ defined 0 ∷ defined 4294967287 ∷ defined 4294967288 ∷ []) ≡ false ∷ false ∷ false ∷ false ∷ true ∷ []
too-far = refl

-- ---- refusals in order

abbrev far : Memory
far = defined 4294967288

-- the last offset that is not refused, and the first that is
last-taken : refusal_of (with_memory (defined 4294967287) line_small ∷ []) ≡ None
unfolding drafts_on_literals
last-taken = refl

first-refused : refusal_of (with_memory far line_small ∷ []) ≡ Some far_memory
unfolding drafts_on_literals
first-refused = refl

-- also of a module that has nothing to be carried
nothing-carried : refusal_of (without_sections far ∷ []) ≡ Some far_memory
unfolding drafts_on_literals
nothing-carried = refl

-- it comes before what is read of its module, also before a compressed section
before-reading : refusal_of (with_memory far (0x38 ∷ 0x00 ∷ []) ∷ []) ≡ Some far_memory
unfolding drafts_on_literals
before-reading = refl

before-compressed : refusal_of (record (without_sections far) { compressed = Some 40 } ∷ []) ≡ Some far_memory
unfolding drafts_on_literals
before-compressed = refl

-- but behind what is read of a module before, and behind a function that is too long in whichever module
behind-earlier : refusal_of (with_memory no_memory (0x38 ∷ 0x00 ∷ []) ∷ with_memory far line_small ∷ []) ≡ Some (of_place (unreadable LineTableRead Line 0))
unfolding drafts_on_literals
behind-earlier = refl

behind-compressed : refusal_of (record (without_sections no_memory) { compressed = Some 40 } ∷ without_sections far ∷ []) ≡ Some (of_place (unsupported Compressed 40))
unfolding drafts_on_literals
behind-compressed = refl

before-later : refusal_of (with_memory far line_small ∷ with_memory no_memory (0x38 ∷ 0x00 ∷ []) ∷ []) ≡ Some far_memory
unfolding drafts_on_literals
before-later = refl

behind-long : refusal_of (with_memory far line_small ∷ long_module ∷ []) ≡ Some long_function
unfolding drafts_on_literals long_module
behind-long = refl
