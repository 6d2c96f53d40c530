-- The unit for functions without debugging information: which functions are simulated, its entries on the edges of its rules, and what is
-- refused of it.
use Rattle.std.proofs.Common.{◌≡◌, ℕ, List, [], ◌∷◌, map, Some, None, refl}
use Rattle.std.specs.Prelude.{codes, length}
use Rattle.dwc_native.specs.Compiled.{LabelRange, no_memory, defined}
use Rattle.dwc_base.specs.declared.records.Endian.TheVariants.{Little, Big}
use Rattle.dwc_base.specs.declared.section_name.SectionName.TheVariants.{Abbrev, Info, Line, Ranges}
use Rattle.dwc_rules.specs.Carried.{Module}
use Rattle.dwc_rules.specs.CarriedUnits.{carried_units_of}
use Rattle.dwc_native.specs.Functions.{Function}
use Rattle.dwc_native.specs.Parts.{context_label}
use Rattle.dwc_rules.specs.Refusals.{Refusal, bad_label, unmapped_register}
use Rattle.dwc_dwarf.specs.Trees.{Tree, entry}
use Rattle.dwc_dwarf.specs.TreeLaws.{HasAllTargets}
use Rattle.dwc_base.specs.declared.translation.ValType.TheVariants.{I32, I64, F32, F64, Other}
use Rattle.dwc_base.specs.ToldFiles.{bare_file, type_of_local}
use Rattle.dwc_native.specs.Runs.{interval_of}
use Rattle.dwc_carried.specs.SimulatedFunctions.{is_begun, simulated_functions}
use Rattle.dwc_carried.specs.SimulatedUnit.{simulated_refusals}
use Rattle.dwc_worked.proofs.SyntheticTrees.{synthetic_tree, synthetic_tree_with}
use Rattle.dwc_worked.proofs.SmallModule.{told_small, abbreviations_small, info_small, line_small}
use Rattle.dwc_worked.proofs.TreesSmall.{tree_with_synthetic}
use Rattle.dwc_worked.proofs.Variants.{info_0}
use Rattle.dwc_worked.proofs.SimulatedInputs.{trees_of, simulated_on_literals, named_small, told_with, a_function, functions_edges, module_edges, types_edges, in_range, simulated_front, simulated_function, simulated_local, lies_in}

-- ---- which functions are simulated

abbrev numbers_simulated : Module → List ℕ
numbers_simulated m = map (λ d. d.function.number) (simulated_functions (is_begun (m ∷ [])) m)

-- some functions with the sections of the small module or a variant
abbrev with_functions : List Function → List ℕ → List ℕ → Module
with_functions fs a i = record (told_with a i line_small) { functions = fs }

-- the small module's subprogram begins in the first; one of 0 begins in none, and its unit is not carried
simulated-behind : numbers_simulated (with_functions functions_edges abbreviations_small info_small) ≡ 2 ∷ 3 ∷ []
unfolding simulated_on_literals
simulated-behind = refl

simulated-all : map numbers_simulated (with_functions functions_edges abbreviations_small info_0 ∷ with_functions functions_edges [] [] ∷ []) ≡ (0 ∷ 2 ∷ 3 ∷ []) ∷ (0 ∷ 2 ∷ 3 ∷ []) ∷ []
unfolding simulated_on_literals
simulated-all = refl

-- a subprogram that begins behind the start of a function begins in it; of two functions at one start in the last
abbrev info_from : ℕ → List ℕ
info_from low = 0x16 ∷ 0x00 ∷ 0x00 ∷ 0x00 ∷ 0x04 ∷ 0x00 ∷ 0x00 ∷ 0x00 ∷ 0x00 ∷ 0x00 ∷ 0x04 ∷ 0x01 ∷ 0x00 ∷ 0x00 ∷ 0x00 ∷ 0x00 ∷ 0x02 ∷ low ∷ 0x00 ∷ 0x00 ∷ 0x00 ∷ 0x0B ∷ 0x00 ∷ 0x00 ∷ 0x00 ∷ 0x00 ∷ []

simulated-beside : map (λ low. numbers_simulated (with_functions functions_edges abbreviations_small (info_from low))) (5 ∷ 12 ∷ 13 ∷ 20 ∷ 60 ∷ []) ≡ (2 ∷ 3 ∷ []) ∷ (2 ∷ 3 ∷ []) ∷ (0 ∷ 2 ∷ 3 ∷ []) ∷ (0 ∷ 2 ∷ []) ∷ (0 ∷ 2 ∷ []) ∷ []
unfolding simulated_on_literals
simulated-beside = refl

-- a subprogram of a partial unit is kept, but that unit is not carried
abbrev abbreviations_partial : List ℕ
abbreviations_partial = 0x01 ∷ 0x3C ∷ 0x01 ∷ 0x10 ∷ 0x17 ∷ 0x00 ∷ 0x00 ∷ 0x02 ∷ 0x2E ∷ 0x00 ∷ 0x11 ∷ 0x01 ∷ 0x12 ∷ 0x06 ∷ 0x00 ∷ 0x00 ∷ 0x00 ∷ []

simulated-partial : numbers_simulated (with_functions functions_edges abbreviations_partial info_small) ≡ 0 ∷ 2 ∷ 3 ∷ []
unfolding simulated_on_literals
simulated-partial = refl

-- a lexical block that begins in a function is no subprogram, nor is one kept for it
abbrev abbreviations_block : List ℕ
abbreviations_block = 0x01 ∷ 0x11 ∷ 0x01 ∷ 0x10 ∷ 0x17 ∷ 0x00 ∷ 0x00 ∷ 0x02 ∷ 0x0B ∷ 0x00 ∷ 0x11 ∷ 0x01 ∷ 0x12 ∷ 0x06 ∷ 0x00 ∷ 0x00 ∷ 0x00 ∷ []

simulated-block : numbers_simulated (with_functions functions_edges abbreviations_block info_small) ≡ 0 ∷ 2 ∷ 3 ∷ []
unfolding simulated_on_literals
simulated-block = refl

-- by a range list a subprogram begins where the first interval does; where this is in no function, a later one makes it kept, and the
-- function of that is simulated all the same
abbrev abbreviations_ranges : List ℕ
abbreviations_ranges = 0x01 ∷ 0x11 ∷ 0x01 ∷ 0x10 ∷ 0x17 ∷ 0x00 ∷ 0x00 ∷ 0x02 ∷ 0x2E ∷ 0x00 ∷ 0x55 ∷ 0x17 ∷ 0x00 ∷ 0x00 ∷ 0x00 ∷ []

abbrev info_ranges : List ℕ
info_ranges = 0x12 ∷ 0x00 ∷ 0x00 ∷ 0x00 ∷ 0x04 ∷ 0x00 ∷ 0x00 ∷ 0x00 ∷ 0x00 ∷ 0x00 ∷ 0x04 ∷ 0x01 ∷ 0x00 ∷ 0x00 ∷ 0x00 ∷ 0x00 ∷ 0x02 ∷ 0x00 ∷ 0x00 ∷ 0x00 ∷ 0x00 ∷ 0x00 ∷ []

-- two intervals of a list, from one address to the next
abbrev list_from : ℕ → ℕ → ℕ → ℕ → List ℕ
list_from a b c d = a ∷ 0x00 ∷ 0x00 ∷ 0x00 ∷ b ∷ 0x00 ∷ 0x00 ∷ 0x00 ∷ c ∷ 0x00 ∷ 0x00 ∷ 0x00 ∷ d ∷ 0x00 ∷ 0x00 ∷ 0x00 ∷ 0x00 ∷ 0x00 ∷ 0x00 ∷ 0x00 ∷ 0x00 ∷ 0x00 ∷ 0x00 ∷ 0x00 ∷ []

abbrev module_ranges : List ℕ → Module
module_ranges list = record (with_functions functions_edges [] []) {
  sections = record { order = Little; bytes = λ name. elim name [ Abbrev ↦ abbreviations_ranges | Info ↦ info_ranges | Line ↦ line_small | Ranges ↦ list | _ ↦ [] ]; relocations = λ name. [] };
}

simulated-ranges : map (λ list. numbers_simulated (module_ranges list)) (list_from 2 5 22 30 ∷ list_from 22 30 2 5 ∷ list_from 13 15 2 5 ∷ list_from 0 1 2 5 ∷ list_from 0 1 13 15 ∷ []) ≡ (2 ∷ 3 ∷ []) ∷ (0 ∷ 2 ∷ []) ∷ (0 ∷ 2 ∷ 3 ∷ []) ∷ (0 ∷ 2 ∷ 3 ∷ []) ∷ (0 ∷ 2 ∷ 3 ∷ []) ∷ []
unfolding simulated_on_literals
simulated-ranges = refl

-- the unit is carried by the later interval, and by that alone
carried-ranges : map (λ list. length (carried_units_of (module_ranges list))) (list_from 2 5 22 30 ∷ list_from 13 15 2 5 ∷ list_from 0 1 2 5 ∷ list_from 0 1 13 15 ∷ []) ≡ 1 ∷ 1 ∷ 1 ∷ 0 ∷ []
unfolding simulated_on_literals
carried-ranges = refl

-- ---- types of locals, parameters first

types : map (type_of_local types_edges) (0 ∷ 1 ∷ 2 ∷ 3 ∷ 4 ∷ 5 ∷ 6 ∷ 7 ∷ 8 ∷ 9 ∷ 0xFFFFFFFE ∷ []) ≡ Some I32 ∷ Some I64 ∷ Some F32 ∷ Some F64 ∷ Some Other ∷ Some F64 ∷ Some I64 ∷ Some I64 ∷ Some Other ∷ None ∷ None ∷ []
types = refl

types-wide : map (type_of_local (record { params = []; locals = (0xFFFFFFFF, F32) ∷ [] })) (0 ∷ 0xFFFFFFFE ∷ 0xFFFFFFFF ∷ []) ≡ Some F32 ∷ Some F32 ∷ None ∷ []
types-wide = refl

-- ---- whole trees

-- the small module whose subprogram begins at 0: no unit is carried, and its function is simulated
unlinked : trees_of Little 0 (named_small (told_with abbreviations_small info_0 line_small) ∷ [])
    ≡ synthetic_tree 0 ∷ simulated_front (codes "g.wasm") (codes "/m") (interval_of 0 (0, 30) ∷ []) (simulated_function 0 30 (codes "wasm-function[0]") 25 ∷ []) ∷ []
unfolding simulated_on_literals
unlinked = refl

-- the small module itself: the root and the types alone, behind the carried unit
linked : trees_of Little 0 (named_small (told_with abbreviations_small info_small line_small) ∷ []) ≡ synthetic_tree 0 ∷ tree_with_synthetic 0 6 ∷ simulated_front (codes "g.wasm") (codes "/m") [] [] ∷ []
unfolding simulated_on_literals
linked = refl

-- a module without debugging sections and without a path, for a target of the other byte order
no-sections : trees_of Big 9 (told_with [] [] [] ∷ [])
    ≡ synthetic_tree 0 ∷ simulated_front (codes "<gen-9>.wasm") (codes "/<wasm-module>") (interval_of 0 (0, 30) ∷ []) (simulated_function 0 30 (codes "wasm-function[0]") 25 ∷ []) ∷ []
unfolding simulated_on_literals
no-sections = refl

-- no module has no unit
no-modules : trees_of Little 0 [] ≡ []
unfolding simulated_on_literals
no-modules = refl

-- ---- the edges of its rules

-- parameter 1 lies in a register on a part that spans two runs, and the context in one all over
abbrev lying : List (ℕ × List LabelRange)
lying = (1, in_range 2 2 9 ∷ []) ∷ (context_label, in_range 2 0 16 ∷ []) ∷ []

-- The unit of a number, of a module whose synthetic unit has a number and the pointer to its context a place there: the function without
-- code has no interval, and its line is that of its start. A name with a zero byte is none, one that is empty is one. Labels of other types
-- than the four, and of no local, have no entry.
abbrev entries_edges : ℕ → ℕ → ℕ → Tree
entries_edges unit synthetic pointer =
    simulated_function 2 0 (codes "wasm-function[4]") 40
    ∷ simulated_function 3 16 (codes "f") 42
    ∷ simulated_local 0x05 (codes "first") (entry unit 1) []
    ∷ simulated_local 0x05 (codes "var1") (entry unit 2) (lies_in 3 2 9 (0x5E ∷ []) ∷ [])
    ∷ simulated_local 0x34 (codes "var5") (entry unit 4) []
    ∷ simulated_local 0x34 [] (entry unit 2) []
    ∷ simulated_local 0x34 (codes "__vmctx") (entry synthetic pointer) (lies_in 3 0 16 (0x5E ∷ []) ∷ []) ∷ []

edges : trees_of Little 0 (module_edges no_memory abbreviations_small info_small line_small lying ∷ [])
    ≡ synthetic_tree 0 ∷ tree_with_synthetic 0 6 ∷ simulated_front (codes "m") (codes "/<wasm-module>") (interval_of 3 (0, 16) ∷ []) (entries_edges 2 0 6) ∷ []
unfolding simulated_on_literals
edges = refl

-- with a memory the type of the context is at another place; without a carried unit the unit has another number, and the first function is
-- simulated with the context that is told of it
edges-unlinked : trees_of Little 0 (module_edges (defined 80) abbreviations_small info_0 line_small lying ∷ [])
    ≡ synthetic_tree_with 0 80
    ∷ simulated_front (codes "m") (codes "/<wasm-module>") (interval_of 0 (0, 30) ∷ interval_of 3 (0, 16) ∷ []) (simulated_function 0 30 (codes "wasm-function[2]") 25 ∷ simulated_local 0x34 (codes "__vmctx") (entry 0 7) [] ∷ entries_edges 1 0 7)
    ∷ []
unfolding simulated_on_literals
edges-unlinked = refl

-- ---- two modules, each with its own context, names and offsets

-- a module of one function of a number, at other offsets
abbrev next_module : Module
next_module = record (told_with [] [] []) {
  functions = a_function (Some 4) 2 9 5 ((0, Some 2) ∷ []) ∷ [];
  told = record told_small { labels = λ number. context_label ∷ [] };
  file = bare_file 100;
}

-- behind the small module, whose path names the unit, and before it, where the number does
two-modules : trees_of Little 0 (named_small (told_with abbreviations_small info_small line_small) ∷ next_module ∷ [])
    ≡ synthetic_tree 0 ∷ tree_with_synthetic 0 6 ∷ synthetic_tree 2
    ∷ simulated_front (codes "g.wasm") (codes "/m") (interval_of 4 (0, 5) ∷ []) (simulated_function 4 5 (codes "wasm-function[0]") 102 ∷ simulated_local 0x34 (codes "__vmctx") (entry 2 6) [] ∷ []) ∷ []
unfolding simulated_on_literals
two-modules = refl

other-order : trees_of Little 3 (next_module ∷ named_small (told_with abbreviations_small info_small line_small) ∷ [])
    ≡ synthetic_tree 0 ∷ synthetic_tree 1 ∷ tree_with_synthetic 1 6
    ∷ simulated_front (codes "<gen-3>.wasm") (codes "/<wasm-module>") (interval_of 4 (0, 5) ∷ []) (simulated_function 4 5 (codes "wasm-function[0]") 102 ∷ simulated_local 0x34 (codes "__vmctx") (entry 0 6) [] ∷ []) ∷ []
unfolding simulated_on_literals
other-order = refl

-- every reference goes to an entry
targets : HasAllTargets (synthetic_tree 0 ∷ tree_with_synthetic 0 6 ∷ simulated_front (codes "m") (codes "/") [] (entries_edges 2 0 6) ∷ [])
targets = refl

-- ---- refusals

abbrev refused_in : List Module → List Refusal
refused_in ms = simulated_refusals (is_begun ms) ms

abbrev refused : List (ℕ × List LabelRange) → List Refusal
refused values = refused_in (module_edges no_memory abbreviations_small info_small line_small values ∷ [])

-- by rising labels, a range that begins above its end, and a register without a number, over the function's source; it needs no memory
refusals : map refused (
    lying
    ∷ ((1, in_range 2 9 4 ∷ []) ∷ []) ∷ ((1, in_range 7 0 16 ∷ []) ∷ []) ∷ ((0, in_range 7 0 16 ∷ []) ∷ (1, in_range 2 9 4 ∷ in_range 8 0 4 ∷ []) ∷ (context_label, in_range 9 3 16 ∷ []) ∷ []) ∷ [])
    ≡ [] ∷ (bad_label 1 ∷ []) ∷ (unmapped_register 7 ∷ []) ∷ (unmapped_register 7 ∷ bad_label 1 ∷ unmapped_register 9 ∷ []) ∷ []
unfolding simulated_on_literals
refusals = refl

-- not those of labels without an entry, nor of a register behind the function's code
not-refused : map refused (((4, in_range 7 0 16 ∷ []) ∷ []) ∷ ((8, in_range 2 9 4 ∷ []) ∷ []) ∷ ((9, in_range 7 0 16 ∷ []) ∷ []) ∷ ((1, in_range 7 16 20 ∷ in_range 7 3 3 ∷ []) ∷ []) ∷ []) ≡ [] ∷ [] ∷ [] ∷ [] ∷ []
unfolding simulated_on_literals
not-refused = refl
