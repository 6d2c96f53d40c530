-- What a WebAssembly file tells of a module's functions beside their code: their names, and the types of their locals. (WebAssembly 1.0,
-- sections 2.3.1 and 2.5.3; the custom section `name` is that of section 7.4.1.)
use Rattle.std.specs.Prelude.{ℕ, ◌-◌, List, [], ◌∷◌, length, Bool, nat_lt, if◌then◌else◌, slice_get, Option, None, Some}
use Rattle.dwc_base.specs.declared.translation.ValType.{ValType}
use Rattle.dwc_base.specs.Wasm.{WasmModule}
use Rattle.dwc_base.specs.WasmFunctions.{LocalTypes, local_types}
use Rattle.dwc_base.specs.WasmNames.{name_of_module, names_of_functions, names_of_locals}

-- ---- types

-- the type of a local of groups, counted from the first group on
abbrev pub type_in_groups : List (ℕ × ValType) → ℕ → Option ValType
type_in_groups [] n = None
type_in_groups (g ∷ gs) n = if nat_lt n g.0 then Some g.1 else type_in_groups gs (n - g.0)

-- whether a local is a parameter
abbrev pub is_parameter : LocalTypes → ℕ → Bool
is_parameter s n = nat_lt n (length s.params)

-- The type of a local, if there is one of its number: the parameters come first, and the others behind them in groups of one type.
abbrev pub type_of_local : LocalTypes → ℕ → Option ValType
type_of_local s n = if is_parameter s n then slice_get s.params n else type_in_groups s.locals (n - length s.params)

-- ---- files

-- What is told: where the file is said to lie, if a path is given; the module's name; how many functions are imported, and where in the file
-- the contents of the code section begin; names of functions, which count the imported ones first, and of their locals; and the types of
-- the locals of the defined ones, in order.
pub record ToldFile : Type 0 where
  pub path : Option (List ℕ)
  pub name : Option (List ℕ)
  pub imported : ℕ
  pub code_offset : ℕ
  pub function_names : List (ℕ × List ℕ)
  pub local_names : List ((ℕ × ℕ) × List ℕ)
  pub local_types : List LocalTypes

-- of a file of no path that tells no name and no type, and imports no function
abbrev pub bare_file : ℕ → ToldFile
bare_file code_offset = record { path = None; name = None; imported = 0; code_offset = code_offset; function_names = []; local_names = []; local_types = [] }

-- What the file of a module tells, of which a path is given or none.
abbrev pub file_of : Option (List ℕ) → WasmModule → ToldFile
file_of path m = record {
  path = path;
  name = name_of_module m;
  imported = m.imported;
  code_offset = m.code_offset;
  function_names = names_of_functions m;
  local_names = names_of_locals m;
  local_types = local_types m;
}
