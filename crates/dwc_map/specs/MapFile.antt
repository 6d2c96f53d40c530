-- The value of a map file, from the JSON that it holds. It has none where a required field is missing, a number is a
-- float or out of its range, or anything is of the wrong kind; unknown fields are passed over.
use Rattle.std.specs.Prelude.{◌≡◌, ◌⊎◌, ℕ, ◌^◌, ◌==◌, List, [], ◌∷◌, length, Bool, true, false, nat_lt, ◌&&◌, Option, Some, None, option_and_then, option_map, codes, sum_by}
use Rattle.std.specs.FinMap as finite
use Rattle.std.specs.Str.{is_utf8}
use Rattle.serde_json.specs.Data.{Data, null, Members}
use Rattle.serde_json.specs.Find.{get_member}
use Rattle.serde_json.specs.Read.{read}
use Rattle.dwc_base.specs.declared.records.OutputFor.{OutputFor}
use Rattle.dwc_base.specs.declared.records.OutputFor.TheVariants.{Default, Debugger}
use Rattle.dwc_base.specs.Reading.{coded}
use Rattle.dwc_native.specs.CallFrames.{CommonEntry, FrameDescription, is_sound_if}
use Rattle.dwc_native.specs.Functions.{AddressMap}
use Rattle.dwc_native.specs.Compiled as told
use Rattle.dwc_native.specs.Compiled.{Place, in_register, at_frame_offset, LabelRange, Memory, no_memory}
use Rattle.dwc_isa.specs.declared.architecture.Architecture.{Architecture}
use Rattle.dwc_isa.specs.declared.architecture.Architecture.TheVariants.{X86_64, Aarch64, S390x, Riscv64, Pulley}
use Rattle.dwc_isa.specs.Registers.{Registers}
use Rattle.dwc_isa.specs.ValueLabels.{LabelledRanges}
use Rattle.dwc_map.specs.MapValues.{◌>>=◌, only_if, number_below, u16_of, u32_of, i64_of, nullable, source_of, truth_of, text_of, list_of, pair_of, four_of, table_of, members_of, required, with_default, named_in}
use Rattle.dwc_map.specs.MapFrames.{cie_in, frame_in}
use Rattle.dwc_isa.specs.ToldModules.{AreNames}

-- the target that the code was compiled for, with the version of DWARF that is written for it, whom that is written for, DWARF's numbers of
-- its registers, and what its frames share
pub record Target : Type 0 where
  pub architecture : Architecture
  pub big_endian : Bool
  pub pointer_bytes : ℕ
  pub version : ℕ
  pub output : OutputFor
  pub registers : Registers
  pub common_entry : Option CommonEntry

-- a function of the map: its address map, where the values of its labels lie, and how its frame changes
pub record MapFunction : Type 0 where
  pub address_map : AddressMap
  pub labels : LabelledRanges
  pub frame : Option FrameDescription

-- a module of the map: its functions, its linear memory, and the path of its file
pub record MapModule : Type 0 where
  pub functions : List MapFunction
  pub memory : Memory
  pub path : Option (List ℕ)

-- the value of a map: the target, the names of two symbols, the modules, and the number of the next name that is made up
pub record MapFile : Type 0 where
  pub target : Target
  pub set_memory : List ℕ
  pub resolve_memory : List ℕ
  pub modules : List MapModule
  pub next_id : ℕ

-- ---- objects

-- the architectures by their names
abbrev pub architectures : List (List ℕ × Architecture)
architectures = (codes "x86_64", X86_64) ∷ (codes "aarch64", Aarch64) ∷ (codes "s390x", S390x) ∷ (codes "riscv64", Riscv64) ∷ (codes "pulley", Pulley) ∷ []

-- an architecture by its name
abbrev pub architecture_of : Data → Option Architecture
architecture_of d = text_of d >>= named_in architectures

-- 4 or 8
abbrev pub pointer_bytes_of : Data → Option ℕ
pointer_bytes_of d = number_below 9 d >>= λ n. coded ((4, 4) ∷ (8, 8) ∷ []) n

-- 4 or 5
abbrev pub version_of : Data → Option ℕ
version_of d = number_below 6 d >>= λ n. coded ((4, 4) ∷ (5, 5) ∷ []) n

-- whom an output is for: whether for a debugger
abbrev pub output_asked : Bool → OutputFor
output_asked true = Debugger
output_asked false = Default

abbrev pub output_of : Data → Option OutputFor
output_of d = option_map output_asked (truth_of d)

-- DWARF's numbers of registers
unfoldable pub register_numbers_of : Data → Option Registers
register_numbers_of d = table_of u16_of d

-- the target
unfoldable pub target_of : Data → Option Target
target_of d = do
  ms ← members_of d
  architecture ← required (codes "arch") architecture_of ms
  big_endian ← with_default (codes "big_endian") false truth_of ms
  pointer_bytes ← with_default (codes "pointer_bytes") 8 pointer_bytes_of ms
  version ← with_default (codes "version") 4 version_of ms
  output ← with_default (codes "debugger") Default output_of ms
  registers ← with_default (codes "registers") finite.empty register_numbers_of ms
  common_entry ← cie_in ms
  Some (record { architecture = architecture; big_endian = big_endian; pointer_bytes = pointer_bytes; version = version; output = output; registers = registers; common_entry = common_entry })

-- the kinds of places by their names
abbrev pub places : List (List ℕ × (Data → Option Place))
places = (codes "reg", λ d. option_map in_register (u32_of d)) ∷ (codes "cfa", λ d. option_map at_frame_offset (i64_of d)) ∷ []

-- a place: in a register of the code generator, or at an offset from the canonical frame address
abbrev pub place_of : Data → Data → Option Place
place_of name d = text_of name >>= named_in places >>= λ kind. kind d

-- where a value lies: from a native offset up to another, at a place
unfoldable pub label_range_of : Data → Option LabelRange
label_range_of d = do
  parts ← four_of d
  start ← u32_of parts.0
  end ← u32_of parts.1
  place ← place_of parts.2 parts.3
  Some (record { place = place; start = start; end = end })

-- the ranges of each label
unfoldable pub labels_of : Data → Option LabelledRanges
labels_of d = table_of (list_of label_range_of) d

-- the sources of code, from each code offset on
abbrev pub entries_of : Data → Option (List (ℕ × Option ℕ))
entries_of d = list_of (pair_of u32_of source_of) d

-- a function with some entries, by the other fields of an object
abbrev pub function_in : List (ℕ × Option ℕ) → Members → Option MapFunction
function_in entries ms = do
  symbol ← required (codes "symbol") (nullable u32_of) ms
  start ← required (codes "start") source_of ms
  end ← required (codes "end") source_of ms
  body_offset ← with_default (codes "body_offset") 0 u32_of ms
  body_len ← required (codes "body_len") u32_of ms
  labels ← with_default (codes "labels") finite.empty labels_of ms
  frame ← frame_in ms
  Some (record {
    address_map = record { symbol = symbol; start = start; end = end; body_offset = body_offset; body_len = body_len; entries = entries };
    labels = labels;
    frame = frame;
  })

-- a function with some entries, labels and a frame, by the other fields of an object
abbrev pub function_by : List (ℕ × Option ℕ) → LabelledRanges → Option FrameDescription → Members → Option MapFunction
function_by entries labels frame ms = do
  symbol ← required (codes "symbol") (nullable u32_of) ms
  start ← required (codes "start") source_of ms
  end ← required (codes "end") source_of ms
  body_offset ← with_default (codes "body_offset") 0 u32_of ms
  body_len ← required (codes "body_len") u32_of ms
  Some (record {
    address_map = record { symbol = symbol; start = start; end = end; body_offset = body_offset; body_len = body_len; entries = entries };
    labels = labels;
    frame = frame;
  })

-- a function with its address map, its labels and its frame
unfoldable pub map_function_of : Data → Option MapFunction
map_function_of d = do
  ms ← members_of d
  entries ← required (codes "map") entries_of ms
  function_in entries ms

-- the memory of another module, by two offsets
abbrev pub imported_of : Data → Option Memory
imported_of d = option_map (λ offsets. told.imported offsets.0 offsets.1) (pair_of u32_of u32_of d)

-- a memory by the two fields, of which one is told
abbrev pub memory_by : Option Data → Option Data → Option Memory
memory_by (Some d) None = option_map told.defined (u32_of d)
memory_by None (Some d) = imported_of d
memory_by _ _ = None

-- a memory, none where it is null
unfoldable pub memory_of : Data → Option Memory
memory_of null = Some no_memory
memory_of d = members_of d >>= λ ms. memory_by (get_member (codes "defined") ms) (get_member (codes "imported") ms)

-- the path of a file, a text
abbrev pub path_of : Data → Option (Option (List ℕ))
path_of d = option_map Some (text_of d)

-- the functions of a module
abbrev pub functions_of : Data → Option (List MapFunction)
functions_of d = list_of map_function_of d

-- a module with some functions, by the other fields of an object
abbrev pub module_in : List MapFunction → Members → Option MapModule
module_in functions ms = do
  memory ← with_default (codes "memory") no_memory memory_of ms
  path ← with_default (codes "path") None path_of ms
  Some (record { functions = functions; memory = memory; path = path })

-- a module with its functions, its memory and the path of its file
unfoldable pub map_module_of : Data → Option MapModule
map_module_of d = do
  ms ← members_of d
  functions ← required (codes "functions") functions_of ms
  module_in functions ms

-- the modules of a map
abbrev pub modules_of : Data → Option (List MapModule)
modules_of d = list_of map_module_of d

-- whether each module has as many functions as are defined in it
abbrev pub have_counts : List ℕ → List MapModule → Bool
have_counts [] [] = true
have_counts [] (m ∷ ms) = false
have_counts (n ∷ ns) [] = false
have_counts (n ∷ ns) (m ∷ ms) = (length m.functions == n) && have_counts ns ms

-- modules and functions are fewer than 2 ^ 32
abbrev pub is_countable : List MapModule → Bool
is_countable ms = nat_lt (length ms) (2 ^ 32) && nat_lt (sum_by (λ m. length m.functions) ms) (2 ^ 32)

-- a map with some modules, by the other fields of an object
abbrev pub map_with : List MapModule → Members → Option MapFile
map_with modules ms = do
  target ← required (codes "target") target_of ms
  names ← required (codes "names") (pair_of text_of text_of) ms
  next_id ← with_default (codes "next_id") 0 u32_of ms
  Some (record { target = target; set_memory = names.0; resolve_memory = names.1; modules = modules; next_id = next_id })

-- The map that a JSON value is, for any modules.
unfoldable pub map_in : Data → Option MapFile
map_in d = do
  ms ← members_of d
  modules ← required (codes "modules") modules_of ms
  map_with modules ms

-- The map that some bytes are, for any modules: they are UTF-8, a JSON text with at most 127 levels, and its value is a map.
unfoldable pub map_in_bytes : List ℕ → Option MapFile
map_in_bytes bytes = do
  text ← only_if (is_utf8 bytes) bytes
  d ← read text
  map_in d

-- a map only where it is one for modules that define so many functions each
abbrev pub map_for : List ℕ → MapFile → Option MapFile
map_for defined m = only_if (have_counts defined m.modules && is_countable m.modules) m

-- The map that some bytes are, for modules that define so many functions each.
unfoldable pub map_of_bytes : List ℕ → List ℕ → Option MapFile
map_of_bytes defined bytes = option_and_then (map_for defined) (map_in_bytes bytes)

-- What is said of each map that is read: an address has 4 or 8 bytes; the version of DWARF is 4 or 5; the names have no zero byte; and a
-- common information entry can be written.
pub record IsMap (m : MapFile) : Type 0 where
  pub pointer : (m.target.pointer_bytes ≡ 4) ⊎ (m.target.pointer_bytes ≡ 8)
  pub version : (m.target.version ≡ 4) ⊎ (m.target.version ≡ 5)
  pub names : AreNames m.set_memory m.resolve_memory
  pub sound : is_sound_if m.target.common_entry ≡ true

-- What is said of one for modules that define so many functions: beside that, the modules are as many as these, with as many functions;
-- modules and functions can be numbered with 32 bits.
pub record IsMapFor (defined : List ℕ) (m : MapFile) : Type 0 where
  pub counts : have_counts defined m.modules ≡ true
  pub countable : is_countable m.modules ≡ true
  pub pointer : (m.target.pointer_bytes ≡ 4) ⊎ (m.target.pointer_bytes ≡ 8)
  pub version : (m.target.version ≡ 4) ⊎ (m.target.version ≡ 5)
  pub names : AreNames m.set_memory m.resolve_memory
  pub sound : is_sound_if m.target.common_entry ≡ true
