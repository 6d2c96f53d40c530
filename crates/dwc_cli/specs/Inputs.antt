-- What the words and the files of a run stand for.
use Rattle.std.specs.Prelude.{ℕ, suc, ◌+◌, ◌==◌, List, [], ◌∷◌, map, length, Bool, false, not, if◌then◌else◌, Option, Some, None, option_map, Result, Ok, Err}
use Rattle.std.specs.Option.{option_or, unwrap_or}
use Rattle.std.specs.FinMap as finite
use Rattle.std.specs.Result.{result_ok}
use Rattle.std.specs.List.{list_all, flat_map}
use Rattle.dwc_base.specs.declared.records.Endian.TheVariants.{Little, Big}
use Rattle.dwc_base.specs.declared.records.MapFault.{MapFault}
use Rattle.dwc_base.specs.declared.records.OutputFor.{OutputFor}
use Rattle.dwc_base.specs.Wasm.{WasmModule, wasm_module, module_sections}
use Rattle.dwc_native.specs.Functions.{map_fault, functions_of}
use Rattle.dwc_native.specs.Compiled.{LabelRange, LinkageNames, ToldModule, frames_from, labels_from, values_from}
use Rattle.dwc_base.specs.ToldFiles.{file_of}
use Rattle.dwc_rules.specs.Carried.{Module, Compilation}
use Rattle.dwc_native.specs.SharedSymbols.{shared_symbol}
use Rattle.dwc_isa.specs.Registers.{Registers}
use Rattle.dwc_map.specs.MapFile.{MapFile, MapFunction, MapModule, map_of_bytes}
use Rattle.dwc_map.specs.MapValues.{◌>>=◌}

-- the words of a run: the path of the map, and those of the modules, one at least
pub record Paths : Type 0 where
  pub map_path : List ℕ
  pub module_paths : List (List ℕ)

-- a path is not empty and does not begin with `-`
abbrev pub is_path : List ℕ → Bool
is_path [] = false
is_path (c ∷ cs) = not (c == 45)

-- the paths that some words name, none where they are not in the grammar
abbrev pub paths_of : List (List ℕ) → Option Paths
paths_of [] = None
paths_of (m ∷ []) = None
paths_of (m ∷ w ∷ ws) = if list_all is_path (m ∷ w ∷ ws) then Some (record { map_path = m; module_paths = w ∷ ws }) else None

-- all paths, in the order of reading
abbrev pub all_paths : Paths → List (List ℕ)
all_paths p = p.map_path ∷ p.module_paths

-- the paths that some words name, in the order of reading
abbrev pub named_paths : List (List ℕ) → List (List ℕ)
named_paths words = unwrap_or (option_map all_paths (paths_of words)) []

-- the bytes of the named files
pub record Input : Type 0 where
  pub map_bytes : List ℕ
  pub modules : List (List ℕ)

-- the bytes of all files, in the order of reading
abbrev pub all_files : Input → List (List ℕ)
all_files input = input.map_bytes ∷ input.modules

-- a module in front of others, or the place where the first of them that does breaks its grammar
abbrev pub with_module : Result WasmModule ℕ → Result (List WasmModule) ℕ → Result (List WasmModule) ℕ
with_module (Err place) others = Err place
with_module (Ok w) (Err place) = Err place
with_module (Ok w) (Ok ws) = Ok (w ∷ ws)

-- The modules that some files are. Where one breaks its grammar, the place in the first that does.
abbrev pub wasm_modules : List (List ℕ) → Result (List WasmModule) ℕ
wasm_modules [] = Ok []
wasm_modules (bytes ∷ files) = with_module (wasm_module bytes) (wasm_modules files)

-- how many functions each module defines
abbrev pub defined_counts : List WasmModule → List ℕ
defined_counts ws = map (λ w. w.defined) ws

-- where the values of a function lie; a label that is not there has no ranges
abbrev pub ranges_of : MapFunction → ℕ → List LabelRange
ranges_of f label = unwrap_or (finite.get f.labels label) []

-- the names of the run time's functions
abbrev pub names_of : MapFile → LinkageNames
names_of m = record { set_memory = m.set_memory; resolve_memory = m.resolve_memory }

-- what is told, for some output, of the module at a place, of whose functions the first has a number, for a target that numbers registers,
-- with names
abbrev pub told_of : OutputFor → Registers → LinkageNames → ℕ → ℕ → MapModule → ToldModule
told_of output registers names place number m = record {
  output = output;
  place = place;
  values = values_from number (map ranges_of m.functions);
  labels = labels_from number (map (λ f. finite.keys f.labels) m.functions);
  frames = frames_from number (map (λ f. f.frame) m.functions);
  memory = m.memory;
  register = λ r. finite.get registers r;
  names = names;
}

-- the modules of a compilation from a place on, carried to an output of a version: the sections of a file, the functions of the map, numbered over all
-- modules, and what the map tells beside them
abbrev pub modules_of : OutputFor → ℕ → Registers → LinkageNames → ℕ → ℕ → List WasmModule → List MapModule → List Module
modules_of output version registers names place number [] ms = []
modules_of output version registers names place number (w ∷ ws) [] = []
modules_of output version registers names place number (w ∷ ws) (m ∷ ms) =
    record {
      sections = module_sections w;
      functions = functions_of output w.code_offset number (map (λ f. f.address_map) m.functions);
      told = told_of output registers names place number m;
      file = file_of m.path w;
      compressed = w.compressed;
      version = version;
    }
    ∷ modules_of output version registers names (suc place) (number + length m.functions) ws ms

-- the compilation of a map and modules
abbrev pub compilation : MapFile → List WasmModule → Compilation
compilation m ws = record { order = if m.target.big_endian then Big else Little; pointer_bytes = m.target.pointer_bytes; modules = modules_of m.target.output m.target.version m.target.registers (names_of m) 0 0 ws m.modules; next_id = m.next_id; common_entry = m.target.common_entry; version = m.target.version }

-- what was read of an input: its modules, and its map
pub record Loaded : Type 0 where
  pub wasm : List WasmModule
  pub map_file : MapFile

-- what some files hold, none where a module breaks its grammar or the map has no value
unfoldable pub loaded : Input → Option Loaded
loaded input = do
  ws ← result_ok (wasm_modules input.modules)
  m ← map_of_bytes (defined_counts ws) input.map_bytes
  Some (record { wasm = ws; map_file = m })

-- the compilation of what was read
abbrev pub compilation_of : Loaded → Compilation
compilation_of l = compilation l.map_file l.wasm

-- the symbols of all functions by their numbers
abbrev pub symbols_of : Loaded → List (Option ℕ)
symbols_of l = flat_map (λ m. map (λ f. f.address_map.symbol) m.functions) l.map_file.modules

-- two functions of an input that have one symbol, by their numbers: the first whose symbol came before, behind where it came
abbrev pub shared_in : Loaded → Option (ℕ × ℕ)
shared_in l = shared_symbol (symbols_of l)

-- an address map that breaks a rule: its module, its function among those of the module, and the first rule
pub record BadMap : Type 0 where
  pub module_place : ℕ
  pub function_place : ℕ
  pub rule : MapFault

-- the first map of a module's functions that breaks a rule; the second place is that of the first function
abbrev pub bad_function : ℕ → ℕ → ℕ → List MapFunction → Option BadMap
bad_function module_place code_offset place [] = None
bad_function module_place code_offset place (f ∷ fs) =
    option_or (option_map (λ rule. record { module_place = module_place; function_place = place; rule = rule }) (map_fault code_offset f.address_map)) (bad_function module_place code_offset (suc place) fs)

-- the first map that breaks a rule, module by module; the place is that of the first module
abbrev pub bad_module : ℕ → List WasmModule → List MapModule → Option BadMap
bad_module place [] ms = None
bad_module place (w ∷ ws) [] = None
bad_module place (w ∷ ws) (m ∷ ms) = option_or (bad_function place w.code_offset 0 m.functions) (bad_module (suc place) ws ms)

-- the first address map of an input that breaks a rule
abbrev pub bad_map : Loaded → Option BadMap
bad_map l = bad_module 0 l.wasm l.map_file.modules
