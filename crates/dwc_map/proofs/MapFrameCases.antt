-- The common information entries and frame records of map files: which have a value, and which value.
use Rattle.std.proofs.Common.{◌≡◌, ℕ, pos, negsuc, List, [], ◌∷◌, Some, None, refl}
use Rattle.std.specs.Prelude.{codes, Option}
use Rattle.serde_json.specs.Read.{read}
use Rattle.dwc_native.specs.CallFrames.{def_cfa, def_cfa_register, def_cfa_offset, restore, undefined, same_value, saved_at, remember_state, restore_state, CommonEntry, FrameDescription}
use Rattle.dwc_map.specs.MapValues.{◌>>=◌, members_of}
use Rattle.dwc_map.specs.MapFrames.{cie_in, frame_in}
use Rattle.dwc_map.proofs.OnLiterals.{map_on_literals}

-- the common information entry by a text of a target
abbrev cie_told : List ℕ → Option (Option CommonEntry)
cie_told text = read text >>= members_of >>= cie_in

-- the frame record by a text of a function
abbrev frame_told : List ℕ → Option (Option FrameDescription)
frame_told text = read text >>= members_of >>= frame_in

-- the defaults
cie-default : cie_told (codes "{}") ≡ Some None
unfolding map_on_literals
cie-default = refl

-- a usual entry
usual : cie_told (codes "{\"cie\":{\"code_factor\":1,\"data_factor\":-8,\"return_register\":16,\"ops\":[[\"cfa\",7,8],[\"offset\",16,-8]]}}") ≡ Some (Some (record { code_factor = 1; data_factor = negsuc 7; return_register = 16; instructions = (def_cfa 7 (pos 8) ∷ saved_at 16 (negsuc 7) ∷ []) }))
unfolding map_on_literals
usual = refl

-- each instruction
each-instruction : cie_told (codes "{\"cie\":{\"code_factor\":255,\"data_factor\":127,\"return_register\":255,\"ops\":[[\"cfa\",7,-127],[\"cfa_register\",6],[\"cfa_offset\",-254],[\"restore\",3],[\"undefined\",65535],[\"same_value\",0],[\"offset\",1,0],[\"remember\"],[\"restore_state\"]]}}") ≡ Some (Some (record { code_factor = 255; data_factor = pos 127; return_register = 255; instructions = (def_cfa 7 (negsuc 126) ∷ def_cfa_register 6 ∷ def_cfa_offset (negsuc 253) ∷ restore 3 ∷ undefined 65535 ∷ same_value 0 ∷ saved_at 1 (pos 0) ∷ remember_state ∷ restore_state ∷ []) }))
unfolding map_on_literals
each-instruction = refl

-- code factor 0
no-code-factor : cie_told (codes "{\"cie\":{\"code_factor\":0,\"data_factor\":-8,\"return_register\":16,\"ops\":[]}}") ≡ None
unfolding map_on_literals
no-code-factor = refl

-- code factor 256
code-factor-past : cie_told (codes "{\"cie\":{\"code_factor\":256,\"data_factor\":-8,\"return_register\":16,\"ops\":[]}}") ≡ None
unfolding map_on_literals
code-factor-past = refl

-- data factor 0
no-data-factor : cie_told (codes "{\"cie\":{\"code_factor\":1,\"data_factor\":0,\"return_register\":16,\"ops\":[]}}") ≡ None
unfolding map_on_literals
no-data-factor = refl

-- data factor -128
lowest-data-factor : cie_told (codes "{\"cie\":{\"code_factor\":1,\"data_factor\":-128,\"return_register\":16,\"ops\":[[\"offset\",1,-128]]}}") ≡ Some (Some (record { code_factor = 1; data_factor = negsuc 127; return_register = 16; instructions = (saved_at 1 (negsuc 127) ∷ []) }))
unfolding map_on_literals
lowest-data-factor = refl

-- data factor -129
data-factor-below : cie_told (codes "{\"cie\":{\"code_factor\":1,\"data_factor\":-129,\"return_register\":16,\"ops\":[]}}") ≡ None
unfolding map_on_literals
data-factor-below = refl

-- data factor 128
data-factor-past : cie_told (codes "{\"cie\":{\"code_factor\":1,\"data_factor\":128,\"return_register\":16,\"ops\":[]}}") ≡ None
unfolding map_on_literals
data-factor-past = refl

-- return register 256
return-register-past : cie_told (codes "{\"cie\":{\"code_factor\":1,\"data_factor\":1,\"return_register\":256,\"ops\":[]}}") ≡ None
unfolding map_on_literals
return-register-past = refl

-- an offset that is no multiple
offset-unsound : cie_told (codes "{\"cie\":{\"code_factor\":1,\"data_factor\":-8,\"return_register\":16,\"ops\":[[\"offset\",16,-9]]}}") ≡ None
unfolding map_on_literals
offset-unsound = refl

-- one from 0 on that is not factored
frame-up : cie_told (codes "{\"cie\":{\"code_factor\":1,\"data_factor\":-8,\"return_register\":16,\"ops\":[[\"cfa\",7,9],[\"cfa_offset\",9]]}}") ≡ Some (Some (record { code_factor = 1; data_factor = negsuc 7; return_register = 16; instructions = (def_cfa 7 (pos 9) ∷ def_cfa_offset (pos 9) ∷ []) }))
unfolding map_on_literals
frame-up = refl

-- one below 0 that is
frame-down : cie_told (codes "{\"cie\":{\"code_factor\":1,\"data_factor\":-8,\"return_register\":16,\"ops\":[[\"cfa\",7,-9]]}}") ≡ None
unfolding map_on_literals
frame-down = refl

-- an unknown instruction
unknown-instruction : cie_told (codes "{\"cie\":{\"code_factor\":1,\"data_factor\":-8,\"return_register\":16,\"ops\":[[\"call\"]]}}") ≡ None
unfolding map_on_literals
unknown-instruction = refl

-- an instruction without its operand
lacks-operand : cie_told (codes "{\"cie\":{\"code_factor\":1,\"data_factor\":-8,\"return_register\":16,\"ops\":[[\"restore\"]]}}") ≡ None
unfolding map_on_literals
lacks-operand = refl

-- an instruction with one operand more
operand-more : cie_told (codes "{\"cie\":{\"code_factor\":1,\"data_factor\":-8,\"return_register\":16,\"ops\":[[\"remember\",1]]}}") ≡ None
unfolding map_on_literals
operand-more = refl

-- an instruction that is no list
no-list : cie_told (codes "{\"cie\":{\"code_factor\":1,\"data_factor\":-8,\"return_register\":16,\"ops\":[\"remember\"]}}") ≡ None
unfolding map_on_literals
no-list = refl

-- an instruction without a name
no-name : cie_told (codes "{\"cie\":{\"code_factor\":1,\"data_factor\":-8,\"return_register\":16,\"ops\":[[]]}}") ≡ None
unfolding map_on_literals
no-name = refl

-- a register past 16 bits
register-past : cie_told (codes "{\"cie\":{\"code_factor\":1,\"data_factor\":-8,\"return_register\":16,\"ops\":[[\"restore\",65536]]}}") ≡ None
unfolding map_on_literals
register-past = refl

-- the least and the greatest offset
offset-bounds : cie_told (codes "{\"cie\":{\"code_factor\":1,\"data_factor\":1,\"return_register\":16,\"ops\":[[\"cfa_offset\",2147483647],[\"cfa_offset\",-2147483648]]}}") ≡ Some (Some (record { code_factor = 1; data_factor = pos 1; return_register = 16; instructions = (def_cfa_offset (pos 2147483647) ∷ def_cfa_offset (negsuc 2147483647) ∷ []) }))
unfolding map_on_literals
offset-bounds = refl

-- an offset past 32 bits
offset-past : cie_told (codes "{\"cie\":{\"code_factor\":1,\"data_factor\":1,\"return_register\":16,\"ops\":[[\"cfa_offset\",2147483648]]}}") ≡ None
unfolding map_on_literals
offset-past = refl

-- one below 32 bits
offset-below : cie_told (codes "{\"cie\":{\"code_factor\":1,\"data_factor\":1,\"return_register\":16,\"ops\":[[\"cfa_offset\",-2147483649]]}}") ≡ None
unfolding map_on_literals
offset-below = refl

-- a float
float : cie_told (codes "{\"cie\":{\"code_factor\":1,\"data_factor\":-8.0,\"return_register\":16,\"ops\":[]}}") ≡ None
unfolding map_on_literals
float = refl

-- null
cie-null : cie_told (codes "{\"cie\":null}") ≡ Some None
unfolding map_on_literals
cie-null = refl

-- an entry without its instructions
lacks-instructions : cie_told (codes "{\"cie\":{\"code_factor\":1,\"data_factor\":-8,\"return_register\":16}}") ≡ None
unfolding map_on_literals
lacks-instructions = refl

-- a list
cie-list : cie_told (codes "{\"cie\":[]}") ≡ None
unfolding map_on_literals
cie-list = refl

-- the defaults
frame-default : frame_told (codes "{}") ≡ Some None
unfolding map_on_literals
frame-default = refl

-- a frame
frame-usual : frame_told (codes "{\"frame\":{\"len\":30,\"ops\":[[1,[\"cfa_offset\",16]]]}}") ≡ Some (Some (record { length = 30; instructions = ((1, def_cfa_offset (pos 16)) ∷ []) }))
unfolding map_on_literals
frame-usual = refl

-- null
frame-null : frame_told (codes "{\"frame\":null}") ≡ Some None
unfolding map_on_literals
frame-null = refl

-- no instructions
frame-empty : frame_told (codes "{\"frame\":{\"len\":4294967295,\"ops\":[]}}") ≡ Some (Some (record { length = 4294967295; instructions = [] }))
unfolding map_on_literals
frame-empty = refl

-- falling code offsets are read
frame-falls : frame_told (codes "{\"frame\":{\"len\":0,\"ops\":[[4,[\"remember\"]],[2,[\"restore_state\"]]]}}") ≡ Some (Some (record { length = 0; instructions = ((4, remember_state) ∷ (2, restore_state) ∷ []) }))
unfolding map_on_literals
frame-falls = refl

-- a factored offset that is none is read
frame-unsound : frame_told (codes "{\"frame\":{\"len\":0,\"ops\":[[4,[\"offset\",16,-9]]]}}") ≡ Some (Some (record { length = 0; instructions = ((4, saved_at 16 (negsuc 8)) ∷ []) }))
unfolding map_on_literals
frame-unsound = refl

-- without a length
lacks-length : frame_told (codes "{\"frame\":{\"ops\":[]}}") ≡ None
unfolding map_on_literals
lacks-length = refl

-- without instructions
frame-lacks-instructions : frame_told (codes "{\"frame\":{\"len\":1}}") ≡ None
unfolding map_on_literals
frame-lacks-instructions = refl

-- an instruction without a code offset
lacks-code-offset : frame_told (codes "{\"frame\":{\"len\":1,\"ops\":[[\"remember\"]]}}") ≡ None
unfolding map_on_literals
lacks-code-offset = refl

-- an offset below 0
code-offset-below : frame_told (codes "{\"frame\":{\"len\":1,\"ops\":[[-1,[\"remember\"]]]}}") ≡ None
unfolding map_on_literals
code-offset-below = refl

-- an unknown field
unknown-field : frame_told (codes "{\"frame\":{\"len\":1,\"ops\":[],\"x\":1}}") ≡ Some (Some (record { length = 1; instructions = [] }))
unfolding map_on_literals
unknown-field = refl

-- a list
frame-list : frame_told (codes "{\"frame\":[]}") ≡ None
unfolding map_on_literals
frame-list = refl

-- a length past 32 bits, and -0, which is a float
length-past : frame_told (codes "{\"frame\":{\"len\":4294967296,\"ops\":[]}}") ≡ None
unfolding map_on_literals
length-past = refl

length-float : frame_told (codes "{\"frame\":{\"len\":-0,\"ops\":[]}}") ≡ None
unfolding map_on_literals
length-float = refl

-- three items in place of a code offset and an instruction
triple : frame_told (codes "{\"frame\":{\"len\":0,\"ops\":[[4,[\"remember\"],1]]}}") ≡ None
unfolding map_on_literals
triple = refl

-- a name that is no text
name-number : frame_told (codes "{\"frame\":{\"len\":0,\"ops\":[[4,[7]]]}}") ≡ None
unfolding map_on_literals
name-number = refl
