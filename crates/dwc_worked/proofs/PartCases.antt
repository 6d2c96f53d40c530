-- What expressions compile to: each operation, and worked cases.
use Rattle.std.proofs.Common.{◌≡◌, ℕ, List, [], ◌∷◌, ◌++◌, Some, None, Ok, Err, true, false, refl}
use Rattle.std.specs.Prelude.{map, Option, Result}
use Rattle.dwc_native.specs.Parts.{code, local, dereference, jump, landing_pad, CompiledParts, compiled, label_alone, is_simple, single_code}
use Rattle.dwc_worked.proofs.OnExpressions.{parts_on_literals}

-- an expression compiled on what another compiles to
abbrev pub compiled_on : Option (List ℕ) → List ℕ → Result (Option CompiledParts) ℕ
compiled_on None bytes = compiled None bytes
compiled_on (Some base) bytes = elim (compiled None base) [ Ok x ↦ compiled x bytes | Err place ↦ Err place ]

-- ---- each operation

-- operations that stay as they are
abbrev staying : List (List ℕ)
staying =
    (8 ∷ 1 ∷ [])
    ∷ (9 ∷ 255 ∷ [])
    ∷ (10 ∷ 1 ∷ 2 ∷ [])
    ∷ (11 ∷ 1 ∷ 2 ∷ [])
    ∷ (12 ∷ 1 ∷ 2 ∷ 3 ∷ 4 ∷ [])
    ∷ (13 ∷ 1 ∷ 2 ∷ 3 ∷ 4 ∷ [])
    ∷ (14 ∷ 1 ∷ 2 ∷ 3 ∷ 4 ∷ 5 ∷ 6 ∷ 7 ∷ 8 ∷ [])
    ∷ (15 ∷ 1 ∷ 2 ∷ 3 ∷ 4 ∷ 5 ∷ 6 ∷ 7 ∷ 8 ∷ [])
    ∷ (16 ∷ 133 ∷ 1 ∷ [])
    ∷ (17 ∷ 127 ∷ [])
    ∷ (18 ∷ [])
    ∷ (19 ∷ [])
    ∷ (20 ∷ [])
    ∷ (21 ∷ 2 ∷ [])
    ∷ (22 ∷ [])
    ∷ (23 ∷ [])
    ∷ (25 ∷ [])
    ∷ (26 ∷ [])
    ∷ (27 ∷ [])
    ∷ (28 ∷ [])
    ∷ (29 ∷ [])
    ∷ (30 ∷ [])
    ∷ (31 ∷ [])
    ∷ (32 ∷ [])
    ∷ (33 ∷ [])
    ∷ (34 ∷ [])
    ∷ (35 ∷ 5 ∷ [])
    ∷ (36 ∷ [])
    ∷ (39 ∷ [])
    ∷ (41 ∷ [])
    ∷ (42 ∷ [])
    ∷ (43 ∷ [])
    ∷ (44 ∷ [])
    ∷ (45 ∷ [])
    ∷ (46 ∷ [])
    ∷ (48 ∷ [])
    ∷ (58 ∷ [])
    ∷ (79 ∷ [])
    ∷ (147 ∷ 4 ∷ [])
    ∷ (150 ∷ [])
    ∷ (157 ∷ 8 ∷ 2 ∷ [])
    ∷ (159 ∷ []) ∷ []

stay : map (λ bytes. compiled None (bytes ++ 0x9F ∷ [])) staying ≡ map (λ bytes. Ok (Some (record { parts = code (bytes ++ 0x9F ∷ []) ∷ []; need_deref = false }))) staying
unfolding parts_on_literals
stay = refl

-- codes that are not supported: reserved ones, addresses, registers, calls, implicit values, typed operations, entry values and those
-- of vendors
abbrev unsupported : List ℕ
unsupported = 0 ∷ 1 ∷ 2 ∷ 3 ∷ 4 ∷ 5 ∷ 7 ∷ 80 ∷ 95 ∷ 111 ∷ 112 ∷ 128 ∷ 143 ∷ 144 ∷ 146 ∷ 151 ∷ 152 ∷ 153 ∷ 154 ∷ 155 ∷ 156 ∷ 158 ∷ 160 ∷ 161 ∷ 162 ∷ 163 ∷ 164 ∷ 165 ∷ 166 ∷ 167 ∷ 168 ∷ 169 ∷ 170 ∷ 171 ∷ 172 ∷ 173 ∷ 174 ∷ 175 ∷ 224 ∷ 236 ∷ 238 ∷ 240 ∷ 243 ∷ 255 ∷ []

not_supported : map (λ c. compiled None (0x30 ∷ c ∷ 0x10 ∷ [])) unsupported ≡ map (λ c. Ok None) unsupported
unfolding parts_on_literals
not_supported = refl

-- ---- worked cases

abbrev base_of_local_3 : Option (List ℕ)
base_of_local_3 = Some (0xED ∷ 0x00 ∷ 0x03 ∷ 0x9F ∷ [])

-- a local and stack_value are its place
lone_local : compiled_on None (237 ∷ 0 ∷ 20 ∷ 159 ∷ []) ≡ Ok (Some (record { parts = local 20 true ∷ []; need_deref = false }))
unfolding parts_on_literals
lone_local = refl

-- behind another operation its value
local_behind : compiled_on None (49 ∷ 237 ∷ 0 ∷ 20 ∷ 159 ∷ []) ≡ Ok (Some (record { parts = code (49 ∷ []) ∷ local 20 false ∷ code (159 ∷ []) ∷ []; need_deref = false }))
unfolding parts_on_literals
local_behind = refl

-- a local alone is an address
local_address : compiled_on None (237 ∷ 0 ∷ 20 ∷ []) ≡ Ok (Some (record { parts = local 20 false ∷ []; need_deref = true }))
unfolding parts_on_literals
local_address = refl

-- a local and two marks are no place
local_twice : compiled_on None (237 ∷ 0 ∷ 20 ∷ 159 ∷ 159 ∷ []) ≡ Ok (Some (record { parts = local 20 false ∷ code (159 ∷ 159 ∷ []) ∷ []; need_deref = false }))
unfolding parts_on_literals
local_twice = refl

-- before a shift to the right the value is moved up
shifted : compiled_on None (237 ∷ 0 ∷ 1 ∷ 64 ∷ 38 ∷ 159 ∷ []) ≡ Ok (Some (record { parts = local 1 false ∷ code (64 ∷ 35 ∷ 32 ∷ 22 ∷ 8 ∷ 32 ∷ 36 ∷ 22 ∷ 38 ∷ 159 ∷ []) ∷ []; need_deref = false }))
unfolding parts_on_literals
shifted = refl

shifted_unsigned : compiled_on None (48 ∷ 49 ∷ 37 ∷ []) ≡ Ok (Some (record { parts = code (48 ∷ 49 ∷ 35 ∷ 32 ∷ 22 ∷ 8 ∷ 32 ∷ 36 ∷ 22 ∷ 37 ∷ []) ∷ []; need_deref = true }))
unfolding parts_on_literals
shifted_unsigned = refl

-- to the left it is not
shifted_left : compiled_on None (48 ∷ 49 ∷ 36 ∷ 159 ∷ []) ≡ Ok (Some (record { parts = code (48 ∷ 49 ∷ 36 ∷ 159 ∷ []) ∷ []; need_deref = false }))
unfolding parts_on_literals
shifted_left = refl

-- jumps forward and backward, and their landing pads
jumps : compiled_on None (49 ∷ 18 ∷ 73 ∷ 42 ∷ 40 ∷ 5 ∷ 0 ∷ 35 ∷ 1 ∷ 47 ∷ 245 ∷ 255 ∷ 159 ∷ []) ≡ Ok (Some (record { parts = code (49 ∷ []) ∷ landing_pad 1 ∷ code (18 ∷ 73 ∷ 42 ∷ []) ∷ jump true 12 ∷ code (35 ∷ 1 ∷ []) ∷ jump false 1 ∷ landing_pad 12 ∷ code (159 ∷ []) ∷ []; need_deref = false }))
unfolding parts_on_literals
jumps = refl

-- a jump into an operation
jump_into : compiled_on None (40 ∷ 1 ∷ 0 ∷ 16 ∷ 35 ∷ 159 ∷ []) ≡ Ok None
unfolding parts_on_literals
jump_into = refl

-- a jump to the end
jump_to_end : compiled_on None (49 ∷ 40 ∷ 1 ∷ 0 ∷ 159 ∷ []) ≡ Ok (Some (record { parts = code (49 ∷ []) ∷ jump true 5 ∷ code (159 ∷ []) ∷ landing_pad 5 ∷ []; need_deref = false }))
unfolding parts_on_literals
jump_to_end = refl

-- and past it
jump_past_end : compiled_on None (49 ∷ 40 ∷ 2 ∷ 0 ∷ 159 ∷ []) ≡ Ok None
unfolding parts_on_literals
jump_past_end = refl

-- a jump to the begin
jump_to_begin : compiled_on None (49 ∷ 40 ∷ 252 ∷ 255 ∷ 159 ∷ []) ≡ Ok (Some (record { parts = landing_pad 0 ∷ code (49 ∷ []) ∷ jump true 0 ∷ code (159 ∷ []) ∷ []; need_deref = false }))
unfolding parts_on_literals
jump_to_begin = refl

-- and before it
jump_before_begin : compiled_on None (49 ∷ 40 ∷ 251 ∷ 255 ∷ 159 ∷ []) ≡ Ok None
unfolding parts_on_literals
jump_before_begin = refl

-- a jump to itself
jump_to_itself : compiled_on None (47 ∷ 253 ∷ 255 ∷ []) ≡ Ok (Some (record { parts = landing_pad 0 ∷ jump false 0 ∷ []; need_deref = true }))
unfolding parts_on_literals
jump_to_itself = refl

-- two jumps to one place have one landing pad
two_jumps : compiled_on None (40 ∷ 3 ∷ 0 ∷ 47 ∷ 0 ∷ 0 ∷ 48 ∷ 159 ∷ []) ≡ Ok (Some (record { parts = jump true 6 ∷ jump false 6 ∷ landing_pad 6 ∷ code (48 ∷ 159 ∷ []) ∷ []; need_deref = false }))
unfolding parts_on_literals
two_jumps = refl

-- into the operand of another jump
jump_into_operand : compiled_on None (40 ∷ 1 ∷ 0 ∷ 47 ∷ 0 ∷ 0 ∷ []) ≡ Ok None
unfolding parts_on_literals
jump_into_operand = refl

-- a jump out of the expression before what is cut short
out_before_cut : compiled_on None (40 ∷ 16 ∷ 0 ∷ 16 ∷ []) ≡ Ok None
unfolding parts_on_literals
out_before_cut = refl

-- a jump into an operation comes last
into_behind_cut : compiled_on None (40 ∷ 1 ∷ 0 ∷ 16 ∷ 35 ∷ 16 ∷ []) ≡ Err 5
unfolding parts_on_literals
into_behind_cut = refl

cut_constant : compiled_on None (16 ∷ []) ≡ Err 0
unfolding parts_on_literals
cut_constant = refl

-- an address
address : compiled_on None (3 ∷ []) ≡ Ok None
unfolding parts_on_literals
address = refl

-- bytes alone
literal : compiled_on None (49 ∷ 159 ∷ []) ≡ Ok (Some (record { parts = code (49 ∷ 159 ∷ []) ∷ []; need_deref = false }))
unfolding parts_on_literals
literal = refl

-- nothing
nothing : compiled_on None [] ≡ Ok (Some (record { parts = []; need_deref = false }))
unfolding parts_on_literals
nothing = refl

-- an offset from the frame base
on_base : compiled_on base_of_local_3 (145 ∷ 18 ∷ []) ≡ Ok (Some (record { parts = local 3 false ∷ code (35 ∷ 18 ∷ []) ∷ []; need_deref = true }))
unfolding parts_on_literals
on_base = refl

-- without a frame base
without_base : compiled_on None (145 ∷ 18 ∷ []) ≡ Ok None
unfolding parts_on_literals
without_base = refl

-- also where it is cut short
without_base_cut : compiled_on None (145 ∷ []) ≡ Ok None
unfolding parts_on_literals
without_base_cut = refl

-- with one it cannot be read
on_base_cut : compiled_on base_of_local_3 (49 ∷ 145 ∷ []) ≡ Err 1
unfolding parts_on_literals
on_base_cut = refl

-- a negative offset is one modulo 2 ^ 64
negative_offset : compiled_on base_of_local_3 (145 ∷ 127 ∷ []) ≡ Ok (Some (record { parts = local 3 false ∷ code (35 ∷ 255 ∷ 255 ∷ 255 ∷ 255 ∷ 255 ∷ 255 ∷ 255 ∷ 255 ∷ 255 ∷ 1 ∷ []) ∷ []; need_deref = true }))
unfolding parts_on_literals
negative_offset = refl

-- the old format
old_format : compiled_on base_of_local_3 (35 ∷ 18 ∷ []) ≡ Ok (Some (record { parts = local 3 false ∷ code (35 ∷ 18 ∷ []) ∷ []; need_deref = true }))
unfolding parts_on_literals
old_format = refl

-- which needs a frame base
old_format_without : compiled_on None (35 ∷ 18 ∷ []) ≡ Ok (Some (record { parts = code (35 ∷ 18 ∷ []) ∷ []; need_deref = true }))
unfolding parts_on_literals
old_format_without = refl

-- and stands first
old_format_second : compiled_on base_of_local_3 (48 ∷ 35 ∷ 18 ∷ []) ≡ Ok (Some (record { parts = code (48 ∷ 35 ∷ 18 ∷ []) ∷ []; need_deref = true }))
unfolding parts_on_literals
old_format_second = refl

-- before a landing pad of the begin
old_format_jump : compiled_on base_of_local_3 (35 ∷ 1 ∷ 49 ∷ 40 ∷ 250 ∷ 255 ∷ 159 ∷ []) ≡ Ok (Some (record { parts = local 3 false ∷ landing_pad 0 ∷ code (35 ∷ 1 ∷ 49 ∷ []) ∷ jump true 0 ∷ code (159 ∷ []) ∷ []; need_deref = false }))
unfolding parts_on_literals
old_format_jump = refl

-- a frame base with operations of its own
base_with_code : compiled_on (Some (49 ∷ 237 ∷ 0 ∷ 5 ∷ 34 ∷ [])) (145 ∷ 1 ∷ 159 ∷ []) ≡ Ok (Some (record { parts = code (49 ∷ []) ∷ local 5 false ∷ code (34 ∷ 35 ∷ 1 ∷ 159 ∷ []) ∷ []; need_deref = false }))
unfolding parts_on_literals
base_with_code = refl

-- twice
base_twice : compiled_on (Some (49 ∷ 237 ∷ 0 ∷ 5 ∷ 34 ∷ [])) (145 ∷ 1 ∷ 145 ∷ 2 ∷ 34 ∷ 159 ∷ []) ≡ Ok (Some (record { parts = code (49 ∷ []) ∷ local 5 false ∷ code (34 ∷ 35 ∷ 1 ∷ 49 ∷ []) ∷ local 5 false ∷ code (34 ∷ 35 ∷ 2 ∷ 34 ∷ 159 ∷ []) ∷ []; need_deref = false }))
unfolding parts_on_literals
base_twice = refl

-- a frame base that reads memory
base_reads : compiled_on (Some (237 ∷ 0 ∷ 1 ∷ 6 ∷ [])) (145 ∷ 0 ∷ []) ≡ Ok (Some (record { parts = local 1 false ∷ dereference ∷ code (6 ∷ 35 ∷ 0 ∷ []) ∷ []; need_deref = true }))
unfolding parts_on_literals
base_reads = refl

-- a frame base with a jump supports nothing
base_jumps : compiled_on (Some (49 ∷ 47 ∷ 0 ∷ 0 ∷ 159 ∷ [])) (49 ∷ 159 ∷ []) ≡ Ok None
unfolding parts_on_literals
base_jumps = refl

-- not even what cannot be read
base_jumps_cut : compiled_on (Some (49 ∷ 47 ∷ 0 ∷ 0 ∷ 159 ∷ [])) (16 ∷ []) ≡ Ok None
unfolding parts_on_literals
base_jumps_cut = refl

-- what reads memory
reads : compiled_on None (48 ∷ 6 ∷ 148 ∷ 2 ∷ 24 ∷ 149 ∷ 1 ∷ []) ≡ Ok (Some (record { parts = code (48 ∷ []) ∷ dereference ∷ code (6 ∷ []) ∷ dereference ∷ code (148 ∷ 2 ∷ []) ∷ dereference ∷ code (24 ∷ []) ∷ dereference ∷ code (149 ∷ 1 ∷ []) ∷ []; need_deref = true }))
unfolding parts_on_literals
reads = refl

-- the greatest local
greatest_local : compiled_on None (237 ∷ 0 ∷ 253 ∷ 255 ∷ 255 ∷ 255 ∷ 15 ∷ 159 ∷ []) ≡ Ok (Some (record { parts = local 4294967293 true ∷ []; need_deref = false }))
unfolding parts_on_literals
greatest_local = refl

-- the label of the context is no local
context_local : compiled_on None (237 ∷ 0 ∷ 254 ∷ 255 ∷ 255 ∷ 255 ∷ 15 ∷ []) ≡ Ok None
unfolding parts_on_literals
context_local = refl

-- a global, the operand stack
global : compiled_on None (237 ∷ 1 ∷ 0 ∷ []) ≡ Ok None
unfolding parts_on_literals
global = refl

-- the kind decides before what is cut short
global_cut : compiled_on None (237 ∷ 1 ∷ []) ≡ Ok None
unfolding parts_on_literals
global_cut = refl

global_fixed : compiled_on None (237 ∷ 3 ∷ []) ≡ Ok None
unfolding parts_on_literals
global_fixed = refl

operand_stack : compiled_on None (237 ∷ 2 ∷ 128 ∷ []) ≡ Ok None
unfolding parts_on_literals
operand_stack = refl

local_cut : compiled_on None (237 ∷ 0 ∷ 128 ∷ []) ≡ Err 0
unfolding parts_on_literals
local_cut = refl

kind_cut : compiled_on None (237 ∷ []) ≡ Err 0
unfolding parts_on_literals
kind_cut = refl

-- what is not supported before what is cut short
unsupported_first : compiled_on None (3 ∷ 16 ∷ []) ≡ Ok None
unfolding parts_on_literals
unsupported_first = refl

-- and the other way round
cut_first : compiled_on None (48 ∷ 16 ∷ 128 ∷ []) ≡ Err 1
unfolding parts_on_literals
cut_first = refl

-- a number of more than 64 bits
too_wide : compiled_on None (48 ∷ 48 ∷ 35 ∷ 255 ∷ 255 ∷ 255 ∷ 255 ∷ 255 ∷ 255 ∷ 255 ∷ 255 ∷ 255 ∷ 2 ∷ []) ≡ Err 2
unfolding parts_on_literals
too_wide = refl

-- redundant bytes stay
redundant : compiled_on None (16 ∷ 133 ∷ 128 ∷ 0 ∷ 159 ∷ []) ≡ Ok (Some (record { parts = code (16 ∷ 133 ∷ 128 ∷ 0 ∷ 159 ∷ []) ∷ []; need_deref = false }))
unfolding parts_on_literals
redundant = refl

-- bytes alone are simple, and so is nothing; a place is not
simple : map is_simple (record { parts = code (49 ∷ 159 ∷ []) ∷ []; need_deref = false } ∷ record { parts = []; need_deref = false } ∷ label_alone 3 ∷ record { parts = code (49 ∷ []) ∷ dereference ∷ []; need_deref = true } ∷ []) ≡ true ∷ true ∷ false ∷ false ∷ []
simple = refl

build : map (λ ps. single_code ps) ((code (49 ∷ 159 ∷ []) ∷ []) ∷ [] ∷ (local 3 true ∷ []) ∷ []) ≡ Some (49 ∷ 159 ∷ []) ∷ None ∷ None ∷ []
build = refl
