-- What a WebAssembly file tells of the functions that it defines: where their bodies are, and the types of their parameters and
-- locals. What cannot be read tells nothing, and no file is refused for it. (WebAssembly 1.0, sections 5.3 and 5.5.)
use Rattle.std.specs.Prelude.{ℕ, ◌==◌, List, [], ◌∷◌, map, if◌then◌else◌, slice_get, Option, Some, None, Ok, Err}
use Rattle.std.specs.Option.{unwrap_or}
use Rattle.std.specs.List.{filter_map}
use Rattle.dwc_base.specs.declared.records.Endian.TheVariants.{Little}
use Rattle.dwc_base.specs.declared.translation.ValType.{ValType}
use Rattle.dwc_base.specs.declared.translation.ValType.TheVariants.{I32, I64, F32, F64, Other}
use Rattle.dwc_base.specs.Reading.{Unread, Read, ◌>>=◌, coded, bytes_at, part_at, number_at, uleb_at}
use Rattle.dwc_base.specs.Wasm.{u32_at, byte_at, Contents, custom, imports, functions, code, other, WasmModule, last_of}
use Rattle.dwc_base.specs.WasmVectors.{vector_at, readable_vector}

-- no bytes
abbrev pub no_bytes : Unread
no_bytes = record { order = Little; place = 0; left = [] }

-- what the last section of a kind holds, no bytes without one
unfoldable pub last_contents : (Contents → Option Unread) → WasmModule → Unread
last_contents pick m = unwrap_or (last_of (filter_map (λ s. pick s.contents) m.sections)) no_bytes

-- ---- types

-- the value type of a byte (section 5.3.1)
abbrev pub value_type : ℕ → ValType
value_type byte = unwrap_or (coded ((0x7F, I32) ∷ (0x7E, I64) ∷ (0x7D, F32) ∷ (0x7C, F64) ∷ []) byte) Other

-- a vector of value types, each of which is a byte
unfoldable pub value_types_at : Unread → Read (List ValType)
value_types_at u = do
  size ← uleb_at u
  bytes ← bytes_at size.0 size.1
  Ok (map value_type bytes.0, bytes.1)

-- a function type: the types of its parameters, and behind them those of its results, which are not wanted (section 5.3.3)
unfoldable pub parameter_types_at : Unread → Read (List ValType)
parameter_types_at u = do
  form ← byte_at (λ b. b == 0x60) u
  parameters ← value_types_at form.1
  results ← value_types_at parameters.1
  Ok (parameters.0, results.1)

-- what a type section holds
abbrev pub type_contents : Contents → Option Unread
type_contents (other id u) = if id == 1 then Some u else None
type_contents (custom title u) = None
type_contents (imports n) = None
type_contents (functions n v) = None
type_contents (code u) = None

-- The parameters of each type of a module, up to the first type that cannot be read. (Section 5.5.4.)
unfoldable pub parameter_types : WasmModule → List (List ValType)
parameter_types m = readable_vector parameter_types_at (last_contents type_contents m)

-- ---- the types of functions

-- what a function section holds
abbrev pub function_contents : Contents → Option Unread
function_contents (functions n u) = Some u
function_contents (custom title u) = None
function_contents (imports n) = None
function_contents (code u) = None
function_contents (other id u) = None

-- The numbers of the types of the functions that a module defines. (Section 5.5.6.)
unfoldable pub type_numbers : WasmModule → List ℕ
type_numbers m = readable_vector uleb_at (last_contents function_contents m)

-- ---- bodies

-- a body: its size, and as many bytes (section 5.5.13)
unfoldable pub body_at : Unread → Read Unread
body_at u = do
  size ← uleb_at u
  part_at size.0 size.1

-- what a code section holds
abbrev pub code_contents : Contents → Option Unread
code_contents (code u) = Some u
code_contents (custom title u) = None
code_contents (imports n) = None
code_contents (functions n v) = None
code_contents (other id u) = None

-- The bodies of the functions that a module defines, each with its place in the file, up to the first that passes the section.
unfoldable pub bodies : WasmModule → List Unread
bodies m = readable_vector body_at (last_contents code_contents m)

-- locals of one type: how many, and the type
unfoldable pub local_group_at : Unread → Read (ℕ × ValType)
local_group_at u = do
  count ← u32_at u
  type ← number_at 1 count.1
  Ok ((count.0, value_type type.0), type.1)

-- the groups of locals at the begin of a body, if all can be read
unfoldable pub local_groups : Unread → Option (List (ℕ × ValType))
local_groups body = elim (vector_at local_group_at body) [ Err flaw ↦ None | Ok groups ↦ Some groups.0 ]

-- ---- the values of functions

-- The types of a function's locals: of its parameters, and of those behind them in groups of one type.
pub record LocalTypes : Type 0 where
  pub params : List ValType
  pub locals : List (ℕ × ValType)

-- of a function of which nothing is told
abbrev pub no_local_types : LocalTypes
no_local_types = record { params = []; locals = [] }

-- of a function whose type and whose groups can be read; else nothing is told
abbrev pub local_types_of : Option (List ValType) → Option (List (ℕ × ValType)) → LocalTypes
local_types_of (Some params) (Some groups) = record { params = params; locals = groups }
local_types_of (Some params) None = no_local_types
local_types_of None groups = no_local_types

-- of functions by the numbers of their types, each with its body; of one without a body nothing is told
abbrev pub all_local_types : List (List ValType) → List ℕ → List Unread → List LocalTypes
all_local_types types [] bodies = []
all_local_types types (n ∷ ns) [] = no_local_types ∷ all_local_types types ns []
all_local_types types (n ∷ ns) (b ∷ bs) = local_types_of (slice_get types n) (local_groups b) ∷ all_local_types types ns bs

-- The types of the locals of each function that a module defines, in order.
unfoldable pub local_types : WasmModule → List LocalTypes
local_types m = all_local_types (parameter_types m) (type_numbers m) (bodies m)
