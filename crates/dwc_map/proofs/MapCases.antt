-- Map files: which have a value, and the values of fields that may be missing.
use Rattle.std.proofs.Common.{◌≡◌, ℕ, pos, negsuc, List, [], ◌∷◌, ◌++◌, Some, None, true, false, refl}
use Rattle.std.specs.Prelude.{Bool, Option, codes, is_some, map}
use Rattle.std.specs.FinMap as finite
use Rattle.dwc_base.specs.declared.records.OutputFor.TheVariants.{Default, Debugger}
use Rattle.dwc_native.specs.CallFrames.{FrameDescription, def_cfa, remember_state}
use Rattle.dwc_native.specs.Functions.{AddressMap}
use Rattle.dwc_isa.specs.declared.architecture.Architecture.TheVariants.{Aarch64, Pulley}
use Rattle.dwc_map.specs.MapFile.{MapFile, Target, map_of_bytes}
use Rattle.dwc_map.proofs.OnLiterals.{map_on_literals}

-- whether a text is a map for a module of one function
abbrev pub HasValue : List ℕ → Bool → Type 0
HasValue text there = is_some (map_of_bytes (1 ∷ []) text) ≡ there

-- the target of a map, and the address maps of its functions
abbrev pub target_in : Option MapFile → Option Target
target_in None = None
target_in (Some m) = Some m.target

abbrev pub functions_in : Option MapFile → List (List AddressMap)
functions_in None = []
functions_in (Some m) = map (λ x. map (λ f. f.address_map) x.functions) m.modules

-- and how their frames change
abbrev pub frames_in : Option MapFile → List (List (Option FrameDescription))
frames_in None = []
frames_in (Some m) = map (λ x. map (λ f. f.frame) x.functions) m.modules

-- the smallest map
plain : HasValue (codes "{\"target\":{\"arch\":\"pulley\"},\"names\":[\"a\",\"b\"],\"modules\":[{\"functions\":[{\"symbol\":7,\"start\":22,\"end\":33,\"body_len\":30,\"map\":[[5,25]]}]}]}") true
unfolding map_on_literals
plain = refl

-- Where nothing is said, the byte order is little, pointers have 8 bytes, DWARF of version 4 is written by the default rules, and no
-- register has a number.
target_defaults : target_in (map_of_bytes (1 ∷ []) (codes "{\"target\":{\"arch\":\"pulley\"},\"names\":[\"a\",\"b\"],\"modules\":[{\"functions\":[{\"symbol\":7,\"start\":22,\"end\":33,\"body_len\":30,\"map\":[[5,25]]}]}]}")) ≡ Some (record { architecture = Pulley; big_endian = false; pointer_bytes = 8; version = 4; output = Default; registers = finite.empty; common_entry = None })
unfolding map_on_literals
target_defaults = refl

-- a target that tells all four
target_told : target_in (map_of_bytes (1 ∷ []) (codes "{\"target\":{\"arch\":\"aarch64\",\"big_endian\":true,\"pointer_bytes\":4,\"version\":5,\"debugger\":true},\"names\":[\"a\",\"b\"],\"modules\":[{\"functions\":[{\"symbol\":7,\"start\":22,\"end\":33,\"body_len\":30,\"map\":[[5,25]]}]}]}")) ≡ Some (record { architecture = Aarch64; big_endian = true; pointer_bytes = 4; version = 5; output = Debugger; registers = finite.empty; common_entry = None })
unfolding map_on_literals
target_told = refl

-- no symbol, no start and end, and a body offset of 0 where nothing is said
function_nulls : functions_in (map_of_bytes (1 ∷ []) (codes "{\"target\":{\"arch\":\"pulley\"},\"names\":[\"a\",\"b\"],\"modules\":[{\"functions\":[{\"symbol\":null,\"start\":null,\"end\":null,\"body_len\":0,\"map\":[]}]}]}")) ≡ (record { symbol = None; start = None; end = None; body_offset = 0; body_len = 0; entries = [] } ∷ []) ∷ []
unfolding map_on_literals
function_nulls = refl

-- of two equal keys the later counts
last_key : functions_in (map_of_bytes (1 ∷ []) (codes "{\"target\":{\"arch\":\"pulley\"},\"names\":[\"a\",\"b\"],\"modules\":[{\"functions\":[{\"symbol\":7,\"symbol\":8,\"start\":22,\"end\":33,\"body_len\":30,\"map\":[[5,25]]}]}]}")) ≡ (record { symbol = Some 8; start = Some 22; end = Some 33; body_offset = 0; body_len = 30; entries = (5, Some 25) ∷ [] } ∷ []) ∷ []
unfolding map_on_literals
last_key = refl

-- unknown fields are passed over
unknown_fields : HasValue (codes "{\"comment\":[1.5,{\"a\":null}],\"target\":{\"arch\":\"pulley\"},\"names\":[\"a\",\"b\"],\"modules\":[{\"functions\":[{\"symbol\":7,\"start\":22,\"end\":33,\"body_len\":30,\"map\":[[5,25]]}]}]}") true
unfolding map_on_literals
unknown_fields = refl

-- a required field is missing
no_target : HasValue (codes "{\"names\":[\"a\",\"b\"],\"modules\":[{\"functions\":[{\"symbol\":7,\"start\":22,\"end\":33,\"body_len\":30,\"map\":[[5,25]]}]}]}") false
unfolding map_on_literals
no_target = refl

-- a function without its map
no_entries : HasValue (codes "{\"target\":{\"arch\":\"pulley\"},\"names\":[\"a\",\"b\"],\"modules\":[{\"functions\":[{\"symbol\":7,\"start\":22,\"end\":33,\"body_len\":30}]}]}") false
unfolding map_on_literals
no_entries = refl

-- an architecture that is none
arch_unknown : HasValue (codes "{\"target\":{\"arch\":\"vax\"},\"names\":[\"a\",\"b\"],\"modules\":[{\"functions\":[{\"symbol\":7,\"start\":22,\"end\":33,\"body_len\":30,\"map\":[[5,25]]}]}]}") false
unfolding map_on_literals
arch_unknown = refl

-- null is no text
arch_null : HasValue (codes "{\"target\":{\"arch\":null},\"names\":[\"a\",\"b\"],\"modules\":[{\"functions\":[{\"symbol\":7,\"start\":22,\"end\":33,\"body_len\":30,\"map\":[[5,25]]}]}]}") false
unfolding map_on_literals
arch_null = refl

-- pointers of 5 bytes
pointer_5 : HasValue (codes "{\"target\":{\"arch\":\"pulley\",\"pointer_bytes\":5},\"names\":[\"a\",\"b\"],\"modules\":[{\"functions\":[{\"symbol\":7,\"start\":22,\"end\":33,\"body_len\":30,\"map\":[[5,25]]}]}]}") false
unfolding map_on_literals
pointer_5 = refl

-- null is no number where a field does not list it
pointer_null : HasValue (codes "{\"target\":{\"arch\":\"pulley\",\"pointer_bytes\":null},\"names\":[\"a\",\"b\"],\"modules\":[{\"functions\":[{\"symbol\":7,\"start\":22,\"end\":33,\"body_len\":30,\"map\":[[5,25]]}]}]}") false
unfolding map_on_literals
pointer_null = refl

-- the version that is the default may be told too
version_4 : target_in (map_of_bytes (1 ∷ []) (codes "{\"target\":{\"arch\":\"pulley\",\"version\":4},\"names\":[\"a\",\"b\"],\"modules\":[{\"functions\":[{\"symbol\":7,\"start\":22,\"end\":33,\"body_len\":30,\"map\":[[5,25]]}]}]}")) ≡ Some (record { architecture = Pulley; big_endian = false; pointer_bytes = 8; version = 4; output = Default; registers = finite.empty; common_entry = None })
unfolding map_on_literals
version_4 = refl

-- versions below and above the two
version_3 : HasValue (codes "{\"target\":{\"arch\":\"pulley\",\"version\":3},\"names\":[\"a\",\"b\"],\"modules\":[{\"functions\":[{\"symbol\":7,\"start\":22,\"end\":33,\"body_len\":30,\"map\":[[5,25]]}]}]}") false
unfolding map_on_literals
version_3 = refl

version_6 : HasValue (codes "{\"target\":{\"arch\":\"pulley\",\"version\":6},\"names\":[\"a\",\"b\"],\"modules\":[{\"functions\":[{\"symbol\":7,\"start\":22,\"end\":33,\"body_len\":30,\"map\":[[5,25]]}]}]}") false
unfolding map_on_literals
version_6 = refl

-- null, a text, a float and a number below 0 are no versions
version_null : HasValue (codes "{\"target\":{\"arch\":\"pulley\",\"version\":null},\"names\":[\"a\",\"b\"],\"modules\":[{\"functions\":[{\"symbol\":7,\"start\":22,\"end\":33,\"body_len\":30,\"map\":[[5,25]]}]}]}") false
unfolding map_on_literals
version_null = refl

version_text : HasValue (codes "{\"target\":{\"arch\":\"pulley\",\"version\":\"5\"},\"names\":[\"a\",\"b\"],\"modules\":[{\"functions\":[{\"symbol\":7,\"start\":22,\"end\":33,\"body_len\":30,\"map\":[[5,25]]}]}]}") false
unfolding map_on_literals
version_text = refl

version_float : HasValue (codes "{\"target\":{\"arch\":\"pulley\",\"version\":4.0},\"names\":[\"a\",\"b\"],\"modules\":[{\"functions\":[{\"symbol\":7,\"start\":22,\"end\":33,\"body_len\":30,\"map\":[[5,25]]}]}]}") false
unfolding map_on_literals
version_float = refl

version_negative : HasValue (codes "{\"target\":{\"arch\":\"pulley\",\"version\":-4},\"names\":[\"a\",\"b\"],\"modules\":[{\"functions\":[{\"symbol\":7,\"start\":22,\"end\":33,\"body_len\":30,\"map\":[[5,25]]}]}]}") false
unfolding map_on_literals
version_negative = refl

-- 1 is no truth value
big_endian_1 : HasValue (codes "{\"target\":{\"arch\":\"pulley\",\"big_endian\":1},\"names\":[\"a\",\"b\"],\"modules\":[{\"functions\":[{\"symbol\":7,\"start\":22,\"end\":33,\"body_len\":30,\"map\":[[5,25]]}]}]}") false
unfolding map_on_literals
big_endian_1 = refl

-- what is the default may be told too
debugger_false : target_in (map_of_bytes (1 ∷ []) (codes "{\"target\":{\"arch\":\"pulley\",\"debugger\":false},\"names\":[\"a\",\"b\"],\"modules\":[{\"functions\":[{\"symbol\":7,\"start\":22,\"end\":33,\"body_len\":30,\"map\":[[5,25]]}]}]}")) ≡ Some (record { architecture = Pulley; big_endian = false; pointer_bytes = 8; version = 4; output = Default; registers = finite.empty; common_entry = None })
unfolding map_on_literals
debugger_false = refl

-- of two the later counts
debugger_later : target_in (map_of_bytes (1 ∷ []) (codes "{\"target\":{\"arch\":\"pulley\",\"debugger\":false,\"debugger\":true},\"names\":[\"a\",\"b\"],\"modules\":[{\"functions\":[{\"symbol\":7,\"start\":22,\"end\":33,\"body_len\":30,\"map\":[[5,25]]}]}]}")) ≡ Some (record { architecture = Pulley; big_endian = false; pointer_bytes = 8; version = 4; output = Debugger; registers = finite.empty; common_entry = None })
unfolding map_on_literals
debugger_later = refl

-- null, a number and a text are no truth values
debugger_null : HasValue (codes "{\"target\":{\"arch\":\"pulley\",\"debugger\":null},\"names\":[\"a\",\"b\"],\"modules\":[{\"functions\":[{\"symbol\":7,\"start\":22,\"end\":33,\"body_len\":30,\"map\":[[5,25]]}]}]}") false
unfolding map_on_literals
debugger_null = refl

debugger_1 : HasValue (codes "{\"target\":{\"arch\":\"pulley\",\"debugger\":1},\"names\":[\"a\",\"b\"],\"modules\":[{\"functions\":[{\"symbol\":7,\"start\":22,\"end\":33,\"body_len\":30,\"map\":[[5,25]]}]}]}") false
unfolding map_on_literals
debugger_1 = refl

debugger_text : HasValue (codes "{\"target\":{\"arch\":\"pulley\",\"debugger\":\"true\"},\"names\":[\"a\",\"b\"],\"modules\":[{\"functions\":[{\"symbol\":7,\"start\":22,\"end\":33,\"body_len\":30,\"map\":[[5,25]]}]}]}") false
unfolding map_on_literals
debugger_text = refl

-- three names
names_three : HasValue (codes "{\"target\":{\"arch\":\"pulley\"},\"names\":[\"a\",\"b\",\"c\"],\"modules\":[{\"functions\":[{\"symbol\":7,\"start\":22,\"end\":33,\"body_len\":30,\"map\":[[5,25]]}]}]}") false
unfolding map_on_literals
names_three = refl

-- a name with a zero character
names_zero : HasValue (codes "{\"target\":{\"arch\":\"pulley\"},\"names\":[\"a\",\"b\\u0000\"],\"modules\":[{\"functions\":[{\"symbol\":7,\"start\":22,\"end\":33,\"body_len\":30,\"map\":[[5,25]]}]}]}") false
unfolding map_on_literals
names_zero = refl

-- two functions for one
function_more : HasValue (codes "{\"target\":{\"arch\":\"pulley\"},\"names\":[\"a\",\"b\"],\"modules\":[{\"functions\":[{\"symbol\":7,\"start\":22,\"end\":33,\"body_len\":30,\"map\":[[5,25]]},{\"symbol\":7,\"start\":22,\"end\":33,\"body_len\":30,\"map\":[[5,25]]}]}]}") false
unfolding map_on_literals
function_more = refl

-- two modules for one
modules_two : HasValue (codes "{\"target\":{\"arch\":\"pulley\"},\"names\":[\"a\",\"b\"],\"modules\":[{\"functions\":[{\"symbol\":7,\"start\":22,\"end\":33,\"body_len\":30,\"map\":[[5,25]]}]},{\"functions\":[]}]}") false
unfolding map_on_literals
modules_two = refl

-- a float
symbol_float : HasValue (codes "{\"target\":{\"arch\":\"pulley\"},\"names\":[\"a\",\"b\"],\"modules\":[{\"functions\":[{\"symbol\":7.0,\"start\":22,\"end\":33,\"body_len\":30,\"map\":[[5,25]]}]}]}") false
unfolding map_on_literals
symbol_float = refl

-- a negative number
symbol_negative : HasValue (codes "{\"target\":{\"arch\":\"pulley\"},\"names\":[\"a\",\"b\"],\"modules\":[{\"functions\":[{\"symbol\":-7,\"start\":22,\"end\":33,\"body_len\":30,\"map\":[[5,25]]}]}]}") false
unfolding map_on_literals
symbol_negative = refl

-- -0 is a float
symbol_minus_0 : HasValue (codes "{\"target\":{\"arch\":\"pulley\"},\"names\":[\"a\",\"b\"],\"modules\":[{\"functions\":[{\"symbol\":-0,\"start\":22,\"end\":33,\"body_len\":30,\"map\":[[5,25]]}]}]}") false
unfolding map_on_literals
symbol_minus_0 = refl

-- the greatest number of 32 bits
symbol_last : HasValue (codes "{\"target\":{\"arch\":\"pulley\"},\"names\":[\"a\",\"b\"],\"modules\":[{\"functions\":[{\"symbol\":4294967295,\"start\":22,\"end\":33,\"body_len\":30,\"map\":[[5,25]]}]}]}") true
unfolding map_on_literals
symbol_last = refl

-- and one more
symbol_past : HasValue (codes "{\"target\":{\"arch\":\"pulley\"},\"names\":[\"a\",\"b\"],\"modules\":[{\"functions\":[{\"symbol\":4294967296,\"start\":22,\"end\":33,\"body_len\":30,\"map\":[[5,25]]}]}]}") false
unfolding map_on_literals
symbol_past = refl

-- the greatest place in a file
start_last : HasValue (codes "{\"target\":{\"arch\":\"pulley\"},\"names\":[\"a\",\"b\"],\"modules\":[{\"functions\":[{\"symbol\":7,\"start\":4294967294,\"end\":33,\"body_len\":30,\"map\":[[5,25]]}]}]}") true
unfolding map_on_literals
start_last = refl

-- 2^32 - 1 is no place
start_past : HasValue (codes "{\"target\":{\"arch\":\"pulley\"},\"names\":[\"a\",\"b\"],\"modules\":[{\"functions\":[{\"symbol\":7,\"start\":4294967295,\"end\":33,\"body_len\":30,\"map\":[[5,25]]}]}]}") false
unfolding map_on_literals
start_past = refl

-- an entry of one number
entry_one : HasValue (codes "{\"target\":{\"arch\":\"pulley\"},\"names\":[\"a\",\"b\"],\"modules\":[{\"functions\":[{\"symbol\":7,\"start\":22,\"end\":33,\"body_len\":30,\"map\":[[5]]}]}]}") false
unfolding map_on_literals
entry_one = refl

-- an entry with a text
entry_text : HasValue (codes "{\"target\":{\"arch\":\"pulley\"},\"names\":[\"a\",\"b\"],\"modules\":[{\"functions\":[{\"symbol\":7,\"start\":22,\"end\":33,\"body_len\":30,\"map\":[[5,\"25\"]]}]}]}") false
unfolding map_on_literals
entry_text = refl

-- something behind the object
trailing : HasValue (codes "{\"target\":{\"arch\":\"pulley\"},\"names\":[\"a\",\"b\"],\"modules\":[{\"functions\":[{\"symbol\":7,\"start\":22,\"end\":33,\"body_len\":30,\"map\":[[5,25]]}]}]}x") false
unfolding map_on_literals
trailing = refl

-- spaces around it
spaces : HasValue (codes " {\"target\":{\"arch\":\"pulley\"},\"names\":[\"a\",\"b\"],\"modules\":[{\"functions\":[{\"symbol\":7,\"start\":22,\"end\":33,\"body_len\":30,\"map\":[[5,25]]}]}]} ") true
unfolding map_on_literals
spaces = refl

-- a list is no map
list : HasValue (codes "[{\"target\":{\"arch\":\"pulley\"},\"names\":[\"a\",\"b\"],\"modules\":[{\"functions\":[{\"symbol\":7,\"start\":22,\"end\":33,\"body_len\":30,\"map\":[[5,25]]}]}]}]") false
unfolding map_on_literals
list = refl

-- bytes that are no UTF-8 are no map
no_utf8 : map_of_bytes (1 ∷ []) (0xFF ∷ []) ≡ None
unfolding map_on_literals
no_utf8 = refl

-- what the frames of a target share, and how the frame of a function changes
cie_told : target_in (map_of_bytes (1 ∷ []) (codes "{\"target\":{\"arch\":\"pulley\",\"cie\":{\"code_factor\":1,\"data_factor\":-8,\"return_register\":16,\"ops\":[[\"cfa\",7,8]]}},\"names\":[\"a\",\"b\"],\"modules\":[{\"functions\":[{\"symbol\":7,\"start\":22,\"end\":33,\"body_len\":30,\"map\":[[5,25]]}]}]}")) ≡ Some (record {
  architecture = Pulley;
  big_endian = false;
  pointer_bytes = 8;
  version = 4;
  output = Default;
  registers = finite.empty;
  common_entry = Some (record { code_factor = 1; data_factor = negsuc 7; return_register = 16; instructions = def_cfa 7 (pos 8) ∷ [] });
})
unfolding map_on_literals
cie_told = refl

frame_told : frames_in (map_of_bytes (1 ∷ []) (codes "{\"target\":{\"arch\":\"pulley\"},\"names\":[\"a\",\"b\"],\"modules\":[{\"functions\":[{\"symbol\":7,\"start\":22,\"end\":33,\"body_len\":30,\"map\":[[5,25]],\"frame\":{\"len\":30,\"ops\":[[1,[\"remember\"]]]}}]}]}")) ≡ (Some (record { length = 30; instructions = (1, remember_state) ∷ [] }) ∷ []) ∷ []
unfolding map_on_literals
frame_told = refl

-- a common information entry that cannot be written, and a frame that is a list
cie_unsound : HasValue (codes "{\"target\":{\"arch\":\"pulley\",\"cie\":{\"code_factor\":1,\"data_factor\":0,\"return_register\":16,\"ops\":[[\"cfa\",7,8]]}},\"names\":[\"a\",\"b\"],\"modules\":[{\"functions\":[{\"symbol\":7,\"start\":22,\"end\":33,\"body_len\":30,\"map\":[[5,25]]}]}]}") false
unfolding map_on_literals
cie_unsound = refl

frame_list : HasValue (codes "{\"target\":{\"arch\":\"pulley\"},\"names\":[\"a\",\"b\"],\"modules\":[{\"functions\":[{\"symbol\":7,\"start\":22,\"end\":33,\"body_len\":30,\"map\":[[5,25]],\"frame\":[]}]}]}") false
unfolding map_on_literals
frame_list = refl

-- ---- paths, and the number of the next name that is made up

-- the map of one function with more fields, and with more fields of its module
abbrev with_fields : List ℕ → List ℕ → List ℕ
with_fields fields of_module = codes "{\"target\":{\"arch\":\"pulley\"},\"names\":[\"a\",\"b\"]" ++ fields ++ codes ",\"modules\":[{\"functions\":[{\"symbol\":7,\"start\":22,\"end\":33,\"body_len\":30,\"map\":[[5,25]]}]" ++ of_module ++ codes "}]}"

abbrev numbers_in : Option MapFile → List ℕ
numbers_in None = []
numbers_in (Some m) = m.next_id ∷ []

abbrev number_read : List ℕ → List ℕ
number_read fields = numbers_in (map_of_bytes (1 ∷ []) (with_fields fields []))

abbrev paths_in : Option MapFile → List (Option (List ℕ))
paths_in None = []
paths_in (Some m) = map (λ x. x.path) m.modules

abbrev path_read : List ℕ → List (Option (List ℕ))
path_read of_module = paths_in (map_of_bytes (1 ∷ []) (with_fields [] of_module))

-- 0 where nothing is said, the greatest number of 32 bits, and one more
next_id_default : number_read [] ≡ 0 ∷ []
unfolding map_on_literals
next_id_default = refl

next_id_last : number_read (codes ",\"next_id\":4294967295") ≡ 4294967295 ∷ []
unfolding map_on_literals
next_id_last = refl

next_id_past : number_read (codes ",\"next_id\":4294967296") ≡ []
unfolding map_on_literals
next_id_past = refl

-- a negative number, a text, and null
next_id_negative : number_read (codes ",\"next_id\":-1") ≡ []
unfolding map_on_literals
next_id_negative = refl

next_id_text : number_read (codes ",\"next_id\":\"1\"") ≡ []
unfolding map_on_literals
next_id_text = refl

next_id_null : number_read (codes ",\"next_id\":null") ≡ []
unfolding map_on_literals
next_id_null = refl

-- no path where nothing is said, a path, and an empty one
path_default : path_read [] ≡ None ∷ []
unfolding map_on_literals
path_default = refl

path_told : path_read (codes ",\"path\":\"/m/g.wasm\"") ≡ Some (codes "/m/g.wasm") ∷ []
unfolding map_on_literals
path_told = refl

path_empty : path_read (codes ",\"path\":\"\"") ≡ Some [] ∷ []
unfolding map_on_literals
path_empty = refl

-- null, a number, and a text with a zero character
path_null : path_read (codes ",\"path\":null") ≡ []
unfolding map_on_literals
path_null = refl

path_number : path_read (codes ",\"path\":1") ≡ []
unfolding map_on_literals
path_number = refl

path_zero : path_read (codes ",\"path\":\"a\\u0000\"") ≡ []
unfolding map_on_literals
path_zero = refl
