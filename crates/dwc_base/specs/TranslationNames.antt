-- What the reader of WebAssembly files tells of names and of the types of locals.
use Rattle.std.specs.Prelude.{◌≡◌, ℕ, List, map, Option, option_map}
use Rattle.std.specs.Borrow.{Bor}
use Rattle.std.specs.List.Sorted.{IsStrictlySortedBy}
use Rattle.std.specs.Ordering.{nat_cmp}
use Rattle.dwc_base.specs.declared.translation.FunctionMeta.{FunctionMeta}
use Rattle.dwc_base.specs.declared.translation.ModuleTranslation.{ModuleTranslation}
use Rattle.dwc_base.specs.declared.translation.ParamTypes.{ParamTypes}
use Rattle.dwc_base.specs.declared.translation.ValType.{ValType}
use Rattle.dwc_base.specs.SortedEntries.{pair_cmp}
use Rattle.dwc_base.specs.Wasm.{WasmModule}
use Rattle.dwc_base.specs.ToldFiles.{ToldFile}
use Rattle.dwc_base.specs.WasmFunctions.{LocalTypes, local_types, value_type}
use Rattle.dwc_base.specs.WasmNames.{name_of_module, names_of_functions, names_of_locals}

-- a number and a name
abbrev pub function_name_view : ℕ × Bor (List ℕ) → ℕ × List ℕ
function_name_view n = (n.0, (n.1).now)

-- the number of a function, that of its local, and a name
abbrev pub local_name_view : ℕ × ℕ × Bor (List ℕ) → (ℕ × ℕ) × List ℕ
local_name_view n = ((n.0, n.1), (n.2).now)

-- the name of a module that a translation tells
abbrev pub told_module_name : ModuleTranslation → Option (List ℕ)
told_module_name t = option_map (λ name. name.now) t.module_name

-- the names of functions
abbrev pub told_function_names : ModuleTranslation → List (ℕ × List ℕ)
told_function_names t = map (λ e. (e.0, (e.1).now)) t.func_names.items

-- the names of locals
abbrev pub told_local_names : ModuleTranslation → List ((ℕ × ℕ) × List ℕ)
told_local_names t = map (λ e. ((e.0, e.1), (e.2).now)) t.local_names.items

-- the types of parameters
abbrev pub param_types : ParamTypes → List ValType
param_types p = map value_type p.bytes.now

-- the types of a function's locals
abbrev pub local_types_view : FunctionMeta → LocalTypes
local_types_view f = record { params = param_types f.params; locals = f.locals.items }

-- the types of the locals of all functions
abbrev pub told_local_types : ModuleTranslation → List LocalTypes
told_local_types t = map local_types_view t.funcs.items

-- What a translation tells of its file.
abbrev pub told_file : ModuleTranslation → ToldFile
told_file t = record {
  path = option_map (λ path. path.now) t.path;
  name = told_module_name t;
  imported = t.imported_funcs;
  code_offset = t.code_section_offset;
  function_names = told_function_names t;
  local_names = told_local_names t;
  local_types = told_local_types t;
}

-- The translation tells the names of a module, and the types of the locals of its functions.
pub record TellsNames (t : ModuleTranslation) (m : WasmModule) : Type 0 where
  pub module_name : told_module_name t ≡ name_of_module m
  pub func_names : told_function_names t ≡ names_of_functions m
  pub local_names : told_local_names t ≡ names_of_locals m
  pub funcs : told_local_types t ≡ local_types m

-- The names of functions and those of locals stand by their numbers, which rise.
pub record HasSortedNames (t : ModuleTranslation) : Type 0 where
  pub func_names : IsStrictlySortedBy nat_cmp (map (λ e. e.0) (told_function_names t))
  pub local_names : IsStrictlySortedBy pair_cmp (map (λ e. e.0) (told_local_names t))
