-- The unit of an output for the functions without debugging information of all modules, whose numbers are none of those that are
-- translated: its entries, and what is refused of them. (This project's own tree; DWARF 4 and 5, sections 3.1.1, 3.3, 4.1 and 5.1.)
use Rattle.std.specs.Prelude.{ℕ, ◌+◌, ◌==◌, pos, List, [], ◌∷◌, ◌++◌, length, map, Bool, true, ◌||◌, if◌then◌else◌, Option, Some, None, option_map, option_and_then, is_some, Result, codes}
use Rattle.std.specs.List.{filter, filter_map, flat_map}
use Rattle.std.specs.Option.{unwrap_or}
use Rattle.std.specs.Fmt.{decimal}
use Rattle.dwc_base.specs.declared.records.OutputFor.{OutputFor}
use Rattle.dwc_base.specs.declared.records.OutputFor.TheVariants.{Default}
use Rattle.dwc_base.specs.declared.records.Address.TheVariants.{Symbol}
use Rattle.dwc_base.specs.declared.constants.TheConstants.{DW_AT_byte_size, DW_AT_comp_dir, DW_AT_decl_file, DW_AT_decl_line, DW_AT_encoding, DW_AT_high_pc, DW_AT_language, DW_AT_location, DW_AT_low_pc, DW_AT_name, DW_AT_producer, DW_AT_ranges, DW_AT_stmt_list, DW_AT_type, DW_ATE_float, DW_ATE_signed, DW_FORM_data2, DW_LANG_C11, DW_TAG_base_type, DW_TAG_compile_unit, DW_TAG_formal_parameter, DW_TAG_subprogram, DW_TAG_variable}
use Rattle.dwc_base.specs.Reading.{coded}
use Rattle.dwc_native.specs.Functions.{Function, recorded_sources}
use Rattle.dwc_rules.specs.Carried.{Module}
use Rattle.dwc_dwarf.specs.Trees.{Interval, Location, TreeValue, address, constant, text, line_table, ranges, locations, entry}
use Rattle.dwc_rules.specs.Drafts.{done, Draft}
use Rattle.dwc_rules.specs.MadeEntries.{named, data1, udata, made}
use Rattle.dwc_rules.specs.SyntheticUnit.{place_of_context_pointer}
use Rattle.dwc_native.specs.Runs.{interval_of}
use Rattle.dwc_rules.specs.RangeAttributes.{list_base}
use Rattle.dwc_rules.specs.Scopes.{source_range}
use Rattle.dwc_native.specs.Parts.{context_label}
use Rattle.dwc_native.specs.BuiltExpressions.{BuildRefusal, Surroundings, label_over}
use Rattle.dwc_rules.specs.LocationRules.{frame_told}
use Rattle.dwc_rules.specs.ContextVariable.{context_variable, locations_or_none, location_refusals}
use Rattle.dwc_rules.specs.Refusals.{Refusal}
use Rattle.dwc_base.specs.Listing.{first_of}
use Rattle.dwc_rules.specs.EntryRules.{of_build}
use Rattle.dwc_rules.specs.CarriedUnits.{wanted_units_of}
use Rattle.dwc_base.specs.declared.translation.ValType.{ValType}
use Rattle.dwc_base.specs.declared.translation.ValType.TheVariants.{I32, I64, F32, F64, Other}
use Rattle.dwc_base.specs.ToldFiles.{is_parameter, type_of_local}
use Rattle.dwc_carried.specs.DefinedFunctions.{DefinedFunction, types_at, told_local_name}
use Rattle.dwc_carried.specs.UnitPaths.{without_zero, path_name, path_directory}
use Rattle.dwc_carried.specs.SimulatedFunctions.{simulated_functions}

-- ---- the root

-- whom the output is for; without a module that plays no part
abbrev pub output_of : List Module → OutputFor
output_of [] = Default
output_of (m ∷ ms) = m.told.output

-- the root of a unit of a path, with intervals of code
abbrev pub simulated_root : OutputFor → List ℕ → List Interval → Draft
simulated_root output path whole =
    made 0 DW_TAG_compile_unit (
    named DW_AT_producer (text (codes "wasmtime"))
    ∷ named DW_AT_language (constant DW_FORM_data2 DW_LANG_C11)
    ∷ named DW_AT_name (text (path_name path))
    ∷ named DW_AT_stmt_list line_table
    ∷ named DW_AT_comp_dir (text (path_directory path))
    ∷ map (λ a. named a.0 a.1) (list_base output true)
    ++ named DW_AT_ranges (ranges whole) ∷ [])

-- the interval of a function whole, none for one without code
abbrev pub whole_interval : Function → Option Interval
whole_interval f = if f.length == 0 then None else Some (interval_of f.number (0, f.length))

-- those of the simulated functions of a module
abbrev pub whole_intervals : (ℕ → Bool) → Module → List Interval
whole_intervals translated m = filter_map (λ d. whole_interval d.function) (simulated_functions translated m)

-- ---- types

-- a base type by its name, size and encoding
abbrev pub base_type : List ℕ → ℕ → ℕ → Draft
base_type name size encoding = made 1 DW_TAG_base_type (named DW_AT_name (text name) ∷ named DW_AT_byte_size (data1 size) ∷ named DW_AT_encoding (data1 encoding) ∷ [])

-- The types of the numbers of WebAssembly, behind the root.
abbrev pub base_types : List Draft
base_types = base_type (codes "i32") 4 DW_ATE_signed ∷ base_type (codes "i64") 8 DW_ATE_signed ∷ base_type (codes "f32") 4 DW_ATE_float ∷ base_type (codes "f64") 8 DW_ATE_float ∷ []

-- the place of the entry of a type, for those that have one
abbrev pub place_of_type : ValType → Option ℕ
place_of_type I32 = Some 1
place_of_type I64 = Some 2
place_of_type F32 = Some 3
place_of_type F64 = Some 4
place_of_type Other = None

-- ---- where values lie

-- what surrounds the labels of a function of a module
abbrev pub surroundings_of : Module → Function → Surroundings
surroundings_of m f = record { functions = m.functions; frame = Some (frame_told m.told f); register = m.told.register }

-- Where the value of a label of a function lies over all of that function's source, or why that is refused.
unfoldable pub label_locations : Module → Function → ℕ → Result (List Location) BuildRefusal
label_locations m f label = label_over (surroundings_of m f) (source_range f) label

-- ---- variables

-- the number of a defined function among all of its module, of which the imported ones come first
abbrev pub function_index : Module → DefinedFunction → ℕ
function_index m d = m.file.imported + d.place

-- the name of a local, if it has one without a zero byte, and else its number
abbrev pub local_name : Module → DefinedFunction → ℕ → List ℕ
local_name m d n = unwrap_or (without_zero (told_local_name m (function_index m d) n)) (codes "var" ++ decimal n)

-- the place of the entry of a local's type, where it has one
abbrev pub type_place : Module → DefinedFunction → ℕ → Option ℕ
type_place m d n = option_and_then place_of_type (type_of_local (types_at m d) n)

-- the tag of a local
abbrev pub local_tag : Module → DefinedFunction → ℕ → ℕ
local_tag m d n = if is_parameter (types_at m d) n then DW_TAG_formal_parameter else DW_TAG_variable

-- a local whose type is the entry at a place of the unit of a number
abbrev pub local_entry : ℕ → Module → DefinedFunction → ℕ → ℕ → Draft
local_entry unit m d n place =
    made 2 (local_tag m d n) (
    named DW_AT_name (text (local_name m d n))
    ∷ named DW_AT_type (entry unit place)
    ∷ named DW_AT_location (locations (locations_or_none (label_locations m d.function n))) ∷ [])

-- the context, with the type of a pointer to it
abbrev pub context_entry : TreeValue → Module → DefinedFunction → Draft
context_entry pointer m d = context_variable 2 (done pointer) (locations_or_none (label_locations m d.function context_label))

-- the entry of a label of a function: the context's, or that of a local of one of the four types; others have none
abbrev pub label_entry : ℕ → TreeValue → Module → DefinedFunction → ℕ → Option Draft
label_entry unit pointer m d label = if label == context_label then Some (context_entry pointer m d) else option_map (local_entry unit m d label) (type_place m d label)

-- ---- functions

-- the name of a function, if it has one without a zero byte, and else its number
abbrev pub function_name : Module → ℕ → List ℕ
function_name m index = unwrap_or (without_zero (coded m.file.function_names index)) (codes "wasm-function[" ++ (decimal index ++ codes "]"))

-- the wasm offset that a function's code comes from: its first recorded source, else its start
abbrev pub first_source : Function → ℕ
first_source f = unwrap_or (option_map (λ e. e.wasm) (first_of (recorded_sources f))) f.start

-- a simulated function; the line that declares it is an offset in its file
abbrev pub function_entry : Module → DefinedFunction → Draft
function_entry m d =
    made 1 DW_TAG_subprogram (
    named DW_AT_low_pc (address (Symbol d.function.number (pos 0)))
    ∷ named DW_AT_high_pc (udata d.function.length)
    ∷ named DW_AT_name (text (function_name m (function_index m d)))
    ∷ named DW_AT_decl_file (udata 1)
    ∷ named DW_AT_decl_line (udata (m.file.code_offset + first_source d.function)) ∷ [])

-- with its parameters and variables, by rising labels
abbrev pub function_entries : ℕ → TreeValue → Module → DefinedFunction → List Draft
function_entries unit pointer m d = function_entry m d ∷ filter_map (label_entry unit pointer m d) (m.told.labels d.function.number)

-- ---- the unit

-- how many units an output has before the simulated one for a module: its synthetic unit, and those of its carried units
abbrev pub unit_count : Module → ℕ
unit_count m = length (wanted_units_of m)

-- the types of pointers to the contexts of modules, in the modules' synthetic units, of which the first has a number
abbrev pub context_pointers : ℕ → List Module → List TreeValue
context_pointers synthetic [] = []
context_pointers synthetic (m ∷ ms) = entry synthetic (place_of_context_pointer m.told.memory) ∷ context_pointers (synthetic + unit_count m) ms

-- the entries of the simulated functions of modules, in the unit of a number, with a type of a pointer to a context for each module
abbrev pub modules_entries : (ℕ → Bool) → ℕ → List TreeValue → List Module → List Draft
modules_entries translated unit pointers [] = []
modules_entries translated unit [] (m ∷ ms) = []
modules_entries translated unit (pointer ∷ pointers) (m ∷ ms) = flat_map (function_entries unit pointer m) (simulated_functions translated m) ++ modules_entries translated unit pointers ms

-- The unit of a path, of a number, with these types: the root, the types of numbers, and the simulated functions in order.
unfoldable pub simulated_unit : (ℕ → Bool) → List ℕ → ℕ → List TreeValue → List Module → List Draft
simulated_unit translated path unit pointers ms = simulated_root (output_of ms) path (flat_map (whole_intervals translated) ms) ∷ base_types ++ modules_entries translated unit pointers ms

-- ---- refusals

-- whether a label of a function has an entry
abbrev pub has_entry : Module → DefinedFunction → ℕ → Bool
has_entry m d label = (label == context_label) || is_some (type_place m d label)

-- why the variables of a simulated function are refused, by rising labels
abbrev pub variable_refusals : Module → DefinedFunction → List Refusal
variable_refusals m d = flat_map (λ label. map (of_build m.told.place) (location_refusals (Some (label_locations m d.function label)))) (filter (has_entry m d) (m.told.labels d.function.number))

-- What is refused of the variables of the unit, in order.
unfoldable pub simulated_refusals : (ℕ → Bool) → List Module → List Refusal
simulated_refusals translated ms = flat_map (λ m. flat_map (variable_refusals m) (simulated_functions translated m)) ms
