-- Modules with functions without debugging information, and the unit for these as a tree, in forms that are short to write down.
use Rattle.std.proofs.Common.{ℕ, pos, List, [], ◌∷◌, Some, None, true, false}
use Rattle.std.specs.Prelude.{◌==◌, Bool, Option, codes}
use Rattle.std.specs.Option.{unwrap_or}
use Rattle.dwc_base.specs.declared.records.OutputFor.TheVariants.{Default}
use Rattle.dwc_base.specs.declared.records.Address.TheVariants.{Symbol}
use Rattle.dwc_base.specs.Reading.{coded}
use Rattle.dwc_native.specs.Functions.{Function}
use Rattle.dwc_base.specs.declared.records.Endian.{Endian}
use Rattle.dwc_rules.specs.Carried.{Module}
use Rattle.dwc_carried.specs.Forests.{trees_made}
use Rattle.dwc_native.specs.Compiled.{LabelRange, Memory, in_register}
use Rattle.dwc_native.specs.Parts.{context_label}
use Rattle.dwc_dwarf.specs.Trees.{Interval, Location, TreeValue, TreeEntry, Tree, address, constant, text, line_table, ranges, locations}
use Rattle.dwc_native.specs.Runs.{interval_of}
use Rattle.dwc_base.specs.declared.translation.ValType.TheVariants.{I32, I64, F32, F64, Other}
use Rattle.dwc_base.specs.WasmFunctions.{LocalTypes, no_local_types}
use Rattle.dwc_worked.proofs.DraftsOnLiterals.{drafts_on_literals}
use Rattle.dwc_worked.proofs.SmallModule.{told_small}
use Rattle.dwc_worked.proofs.Readings.{three_sections}
use Rattle.dwc_worked.proofs.TreeInputs.{an_entry}
use Rattle.dwc_worked.proofs.Variants.{module_with}

-- what stays shut of these units
unfoldable pub simulated_on_literals : ℕ
unfolding drafts_on_literals
simulated_on_literals = 0

-- the trees of all units of an output of a byte order for modules, the next generated name having a number
abbrev pub trees_of : Endian → ℕ → List Module → List Tree
trees_of order next_id ms = trees_made (record { order = order; pointer_bytes = 8; modules = ms; next_id = next_id; common_entry = None; version = 4 })

-- ---- modules

-- a module of the small file: one function, of which nothing but a path is told
abbrev pub named_small : Module → Module
named_small m = record m { file = record m.file { path = Some (codes "/m/g.wasm") } }

-- a module with what is told of the small one
abbrev pub told_with : List ℕ → List ℕ → List ℕ → Module
told_with a i l = record (module_with a i l) { told = told_small }

-- a function by its number, if it has a symbol, its start, end, length and entries
abbrev pub a_function : Option ℕ → ℕ → ℕ → ℕ → List (ℕ × Option ℕ) → Function
a_function symbol start end length entries = record { output = Default; number = unwrap_or symbol 0; symbol = symbol; start = start; end = end; length = length; entries = entries }

-- One that the small module's subprogram begins in, one without a symbol, one without code and recorded source, and one with labels.
abbrev pub last_function : Function
last_function = a_function (Some 3) 20 40 16 ((0, Some 22) ∷ (4, None) ∷ (8, Some 21) ∷ (8, Some 30) ∷ (16, Some 40) ∷ [])

abbrev pub functions_edges : List Function
functions_edges =
    a_function (Some 0) 2 13 30 ((5, Some 5) ∷ [])
    ∷ a_function None 13 20 30 ((0, Some 13) ∷ [])
    ∷ a_function (Some 2) 20 20 0 ((0, None) ∷ [])
    ∷ last_function ∷ []

-- the types of the locals of the last function
abbrev pub types_edges : LocalTypes
types_edges = record { params = I32 ∷ I64 ∷ F32 ∷ F64 ∷ Other ∷ []; locals = (1, F64) ∷ (0, I32) ∷ (2, I64) ∷ (1, Other) ∷ [] }

-- the labels of that function: parameters 0, 1 and 4, locals 5, 6 and 8, one past its locals, and the context
abbrev pub labels_edges : ℕ → List ℕ
labels_edges number = unwrap_or (coded ((0, 0 ∷ context_label ∷ []) ∷ (3, 0 ∷ 1 ∷ 4 ∷ 5 ∷ 6 ∷ 8 ∷ 9 ∷ context_label ∷ []) ∷ []) number) []

-- a range in a register
abbrev pub in_range : ℕ → ℕ → ℕ → LabelRange
in_range register start end = record { place = in_register register; start = start; end = end }

-- some ranges of labels of that function, none of another
abbrev pub values_edges : List (ℕ × List LabelRange) → Bool → ℕ → List LabelRange
values_edges values true label = unwrap_or (coded values label) []
values_edges values false label = []

-- these functions with the sections of the small module or a variant, where of labels of the last one some ranges are told; register 2
-- has the number 14
abbrev pub module_edges : Memory → List ℕ → List ℕ → List ℕ → List (ℕ × List LabelRange) → Module
module_edges memory a i l values = record {
  sections = three_sections a i l;
  functions = functions_edges;
  told = record told_small { values = λ number. values_edges values (number == 3); labels = labels_edges; memory = memory; register = coded ((2, 14) ∷ []) };
  file = record {
    path = None;
    name = Some (codes "m");
    imported = 2;
    code_offset = 20;
    function_names = (3, 0x61 ∷ 0 ∷ []) ∷ (4, 0x61 ∷ 0 ∷ []) ∷ (5, codes "f") ∷ [];
    local_names = ((5, 0), codes "first") ∷ ((5, 1), 0 ∷ []) ∷ ((5, 6), []) ∷ ((6, 4), codes "other") ∷ [];
    local_types = no_local_types ∷ no_local_types ∷ no_local_types ∷ types_edges ∷ [];
  };
  compressed = None;
  version = 4;
}

-- ---- trees

-- the root and the types, of a name and a directory, with intervals of code, before the rest
abbrev pub simulated_front : List ℕ → List ℕ → List Interval → Tree → Tree
simulated_front name directory whole rest =
    an_entry 0 0x11 ((0x25, text (codes "wasmtime")) ∷ (0x13, constant 0x05 0x1D) ∷ (0x03, text name) ∷ (0x10, line_table) ∷ (0x1B, text directory) ∷ (0x55, ranges whole) ∷ [])
    ∷ an_entry 1 0x24 ((0x03, text (codes "i32")) ∷ (0x0B, constant 0x0B 4) ∷ (0x3E, constant 0x0B 5) ∷ [])
    ∷ an_entry 1 0x24 ((0x03, text (codes "i64")) ∷ (0x0B, constant 0x0B 8) ∷ (0x3E, constant 0x0B 5) ∷ [])
    ∷ an_entry 1 0x24 ((0x03, text (codes "f32")) ∷ (0x0B, constant 0x0B 4) ∷ (0x3E, constant 0x0B 4) ∷ [])
    ∷ an_entry 1 0x24 ((0x03, text (codes "f64")) ∷ (0x0B, constant 0x0B 8) ∷ (0x3E, constant 0x0B 4) ∷ []) ∷ rest

-- a function of a number and a length, with its name and its line
abbrev pub simulated_function : ℕ → ℕ → List ℕ → ℕ → TreeEntry
simulated_function number length name line = an_entry 1 0x2E ((0x11, address (Symbol number (pos 0))) ∷ (0x12, constant 0x0F length) ∷ (0x03, text name) ∷ (0x3A, constant 0x0F 1) ∷ (0x3B, constant 0x0F line) ∷ [])

-- a parameter or a variable
abbrev pub simulated_local : ℕ → List ℕ → TreeValue → List Location → TreeEntry
simulated_local tag name type located = an_entry 2 tag ((0x03, text name) ∷ (0x49, type) ∷ (0x02, locations located) ∷ [])

-- bytes on a range of a function
abbrev pub lies_in : ℕ → ℕ → ℕ → List ℕ → Location
lies_in number start end bytes = record { over = interval_of number (start, end); bytes = bytes }
