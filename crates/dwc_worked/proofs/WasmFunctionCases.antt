-- The types of the locals of a WebAssembly file's functions, and files that are broken in each place.
use Rattle.std.proofs.Common.{◌≡◌, ℕ, zero, suc, List, [], ◌∷◌, ◌++◌, length, map, Ok, Err, refl, ap, arith}
use Rattle.std.specs.Prelude.{Result, get_or}
use Rattle.dwc_base.specs.declared.translation.ValType.TheVariants.{I32, I64, F32, F64, Other}
use Rattle.dwc_base.specs.CodeOffsets.{wasm_code_offset}
use Rattle.dwc_base.specs.Wasm.{WasmModule, wasm_module, preamble}
use Rattle.dwc_base.specs.WasmFunctions.{value_type, bodies, LocalTypes, no_local_types, local_types}
use Rattle.dwc_worked.proofs.NamesOnLiterals.{functions_on_literals}
use Rattle.dwc_worked.proofs.SmallModule.{file_small}

abbrev pub types_of : Result WasmModule ℕ → Result (List LocalTypes) ℕ
types_of (Err place) = Err place
types_of (Ok m) = Ok (local_types m)

-- the types in a file of some sections
abbrev pub types_in : List ℕ → Result (List LocalTypes) ℕ
types_in sections = types_of (wasm_module (preamble ++ sections))

-- a type section of three types: of the four types of numbers, of none, and of others
abbrev pub three_types : List ℕ
three_types = 0x01 ∷ 0x14 ∷ 0x03 ∷ 0x60 ∷ 0x04 ∷ 0x7F ∷ 0x7E ∷ 0x7D ∷ 0x7C ∷ 0x01 ∷ 0x7F ∷ 0x60 ∷ 0x00 ∷ 0x00 ∷ 0x60 ∷ 0x03 ∷ 0x70 ∷ 0x6F ∷ 0x7B ∷ 0x02 ∷ 0x7F ∷ 0x7E ∷ []

-- the types in a file of that section and others
abbrev pub types_behind : List ℕ → Result (List LocalTypes) ℕ
types_behind sections = types_in (three_types ++ sections)

-- parameters and locals of each type
types_and_locals : types_behind (0x03 ∷ 0x04 ∷ 0x03 ∷ 0x02 ∷ 0x00 ∷ 0x01 ∷ 0x0A ∷ 0x18 ∷ 0x03 ∷ 0x06 ∷ 0x02 ∷ 0x01 ∷ 0x7F ∷ 0x02 ∷ 0x7E ∷ 0x0B ∷ 0x02 ∷ 0x00 ∷ 0x0B ∷ 0x0C ∷ 0x03 ∷ 0x00 ∷ 0x7D ∷ 0x01 ∷ 0x7C ∷ 0xFF ∷ 0xFF ∷ 0xFF ∷ 0xFF ∷ 0x0F ∷ 0x70 ∷ 0x0B ∷ []) ≡ Ok (record { params = (Other ∷ Other ∷ Other ∷ []); locals = ((1, I32) ∷ (2, I64) ∷ []) } ∷ record { params = (I32 ∷ I64 ∷ F32 ∷ F64 ∷ []); locals = [] } ∷ record { params = []; locals = ((0, F32) ∷ (1, F64) ∷ (4294967295, Other) ∷ []) } ∷ [])
unfolding functions_on_literals
types_and_locals = refl

-- no type section
no_types : types_in (0x03 ∷ 0x02 ∷ 0x01 ∷ 0x00 ∷ 0x0A ∷ 0x06 ∷ 0x01 ∷ 0x04 ∷ 0x01 ∷ 0x01 ∷ 0x7F ∷ 0x0B ∷ []) ≡ Ok (no_local_types ∷ [])
unfolding functions_on_literals
no_types = refl

-- no code section
no_bodies : types_behind (0x03 ∷ 0x02 ∷ 0x01 ∷ 0x00 ∷ []) ≡ Ok (no_local_types ∷ [])
unfolding functions_on_literals
no_bodies = refl

-- a type number past the types
type_past : types_behind (0x03 ∷ 0x07 ∷ 0x02 ∷ 0x03 ∷ 0x80 ∷ 0x80 ∷ 0x80 ∷ 0x80 ∷ 0x10 ∷ 0x0A ∷ 0x09 ∷ 0x02 ∷ 0x04 ∷ 0x01 ∷ 0x01 ∷ 0x7F ∷ 0x0B ∷ 0x02 ∷ 0x00 ∷ 0x0B ∷ []) ≡ Ok (no_local_types ∷ no_local_types ∷ [])
unfolding functions_on_literals
type_past = refl

-- a type that is none ends the types
type_form : types_in (0x01 ∷ 0x0A ∷ 0x03 ∷ 0x60 ∷ 0x01 ∷ 0x7F ∷ 0x00 ∷ 0x5F ∷ 0x60 ∷ 0x01 ∷ 0x7E ∷ 0x00 ∷ 0x03 ∷ 0x04 ∷ 0x03 ∷ 0x00 ∷ 0x01 ∷ 0x02 ∷ 0x0A ∷ 0x0C ∷ 0x03 ∷ 0x02 ∷ 0x00 ∷ 0x0B ∷ 0x04 ∷ 0x01 ∷ 0x01 ∷ 0x7F ∷ 0x0B ∷ 0x02 ∷ 0x00 ∷ 0x0B ∷ []) ≡ Ok (record { params = (I32 ∷ []); locals = [] } ∷ no_local_types ∷ no_local_types ∷ [])
unfolding functions_on_literals
type_form = refl

-- a type that is cut
type_cut : types_in (0x01 ∷ 0x08 ∷ 0x02 ∷ 0x60 ∷ 0x01 ∷ 0x7F ∷ 0x00 ∷ 0x60 ∷ 0x05 ∷ 0x7F ∷ 0x03 ∷ 0x03 ∷ 0x02 ∷ 0x00 ∷ 0x01 ∷ 0x0A ∷ 0x07 ∷ 0x02 ∷ 0x02 ∷ 0x00 ∷ 0x0B ∷ 0x02 ∷ 0x00 ∷ 0x0B ∷ []) ≡ Ok (record { params = (I32 ∷ []); locals = [] } ∷ no_local_types ∷ [])
unfolding functions_on_literals
type_cut = refl

-- a type without results
results_cut : types_in (0x01 ∷ 0x08 ∷ 0x02 ∷ 0x60 ∷ 0x01 ∷ 0x7F ∷ 0x00 ∷ 0x60 ∷ 0x01 ∷ 0x7F ∷ 0x03 ∷ 0x03 ∷ 0x02 ∷ 0x00 ∷ 0x01 ∷ 0x0A ∷ 0x07 ∷ 0x02 ∷ 0x02 ∷ 0x00 ∷ 0x0B ∷ 0x02 ∷ 0x00 ∷ 0x0B ∷ []) ≡ Ok (record { params = (I32 ∷ []); locals = [] } ∷ no_local_types ∷ [])
unfolding functions_on_literals
results_cut = refl

-- fewer types than their count, and a rest
type_count : types_in (0x01 ∷ 0x05 ∷ 0x09 ∷ 0x60 ∷ 0x01 ∷ 0x7F ∷ 0x00 ∷ 0x03 ∷ 0x03 ∷ 0x02 ∷ 0x00 ∷ 0x01 ∷ 0x0A ∷ 0x07 ∷ 0x02 ∷ 0x02 ∷ 0x00 ∷ 0x0B ∷ 0x02 ∷ 0x00 ∷ 0x0B ∷ []) ≡ Ok (record { params = (I32 ∷ []); locals = [] } ∷ no_local_types ∷ [])
unfolding functions_on_literals
type_count = refl

-- more types than their count
type_rest : types_in (0x01 ∷ 0x09 ∷ 0x01 ∷ 0x60 ∷ 0x01 ∷ 0x7F ∷ 0x00 ∷ 0x60 ∷ 0x01 ∷ 0x7E ∷ 0x00 ∷ 0x03 ∷ 0x03 ∷ 0x02 ∷ 0x00 ∷ 0x01 ∷ 0x0A ∷ 0x07 ∷ 0x02 ∷ 0x02 ∷ 0x00 ∷ 0x0B ∷ 0x02 ∷ 0x00 ∷ 0x0B ∷ []) ≡ Ok (record { params = (I32 ∷ []); locals = [] } ∷ no_local_types ∷ [])
unfolding functions_on_literals
type_rest = refl

-- a count of types that is cut
type_count_cut : types_in (0x01 ∷ 0x01 ∷ 0x80 ∷ 0x03 ∷ 0x02 ∷ 0x01 ∷ 0x00 ∷ 0x0A ∷ 0x04 ∷ 0x01 ∷ 0x02 ∷ 0x00 ∷ 0x0B ∷ []) ≡ Ok (no_local_types ∷ [])
unfolding functions_on_literals
type_count_cut = refl

-- a group of 2^32 locals: nothing of this function, the others stand
group_wide : types_behind (0x03 ∷ 0x03 ∷ 0x02 ∷ 0x00 ∷ 0x00 ∷ 0x0A ∷ 0x11 ∷ 0x02 ∷ 0x0A ∷ 0x02 ∷ 0x01 ∷ 0x7F ∷ 0x80 ∷ 0x80 ∷ 0x80 ∷ 0x80 ∷ 0x10 ∷ 0x7F ∷ 0x0B ∷ 0x04 ∷ 0x01 ∷ 0x01 ∷ 0x7F ∷ 0x0B ∷ []) ≡ Ok (no_local_types ∷ record { params = (I32 ∷ I64 ∷ F32 ∷ F64 ∷ []); locals = ((1, I32) ∷ []) } ∷ [])
unfolding functions_on_literals
group_wide = refl

-- fewer groups than their count
groups_cut : types_behind (0x03 ∷ 0x03 ∷ 0x02 ∷ 0x00 ∷ 0x00 ∷ 0x0A ∷ 0x0A ∷ 0x02 ∷ 0x03 ∷ 0x02 ∷ 0x01 ∷ 0x7F ∷ 0x04 ∷ 0x01 ∷ 0x02 ∷ 0x7E ∷ 0x0B ∷ []) ≡ Ok (no_local_types ∷ record { params = (I32 ∷ I64 ∷ F32 ∷ F64 ∷ []); locals = ((2, I64) ∷ []) } ∷ [])
unfolding functions_on_literals
groups_cut = refl

-- a body of no bytes
body_empty : types_behind (0x03 ∷ 0x03 ∷ 0x02 ∷ 0x00 ∷ 0x00 ∷ 0x0A ∷ 0x07 ∷ 0x02 ∷ 0x00 ∷ 0x04 ∷ 0x01 ∷ 0x02 ∷ 0x7E ∷ 0x0B ∷ []) ≡ Ok (no_local_types ∷ record { params = (I32 ∷ I64 ∷ F32 ∷ F64 ∷ []); locals = ((2, I64) ∷ []) } ∷ [])
unfolding functions_on_literals
body_empty = refl

-- a body that passes the section: this one and those behind tell nothing
body_past : types_behind (0x03 ∷ 0x04 ∷ 0x03 ∷ 0x00 ∷ 0x00 ∷ 0x00 ∷ 0x0A ∷ 0x08 ∷ 0x03 ∷ 0x04 ∷ 0x01 ∷ 0x01 ∷ 0x7F ∷ 0x0B ∷ 0x20 ∷ 0x00 ∷ []) ≡ Ok (record { params = (I32 ∷ I64 ∷ F32 ∷ F64 ∷ []); locals = ((1, I32) ∷ []) } ∷ no_local_types ∷ no_local_types ∷ [])
unfolding functions_on_literals
body_past = refl

-- fewer bodies than functions
bodies_few : types_behind (0x03 ∷ 0x03 ∷ 0x02 ∷ 0x00 ∷ 0x00 ∷ 0x0A ∷ 0x06 ∷ 0x01 ∷ 0x04 ∷ 0x01 ∷ 0x01 ∷ 0x7F ∷ 0x0B ∷ []) ≡ Ok (record { params = (I32 ∷ I64 ∷ F32 ∷ F64 ∷ []); locals = ((1, I32) ∷ []) } ∷ no_local_types ∷ [])
unfolding functions_on_literals
bodies_few = refl

-- more bodies than functions
bodies_many : types_behind (0x03 ∷ 0x02 ∷ 0x01 ∷ 0x00 ∷ 0x0A ∷ 0x0B ∷ 0x02 ∷ 0x04 ∷ 0x01 ∷ 0x01 ∷ 0x7F ∷ 0x0B ∷ 0x04 ∷ 0x01 ∷ 0x01 ∷ 0x7E ∷ 0x0B ∷ []) ≡ Ok (record { params = (I32 ∷ I64 ∷ F32 ∷ F64 ∷ []); locals = ((1, I32) ∷ []) } ∷ [])
unfolding functions_on_literals
bodies_many = refl

-- no function section
bodies_none : types_behind (0x0A ∷ 0x06 ∷ 0x01 ∷ 0x04 ∷ 0x01 ∷ 0x01 ∷ 0x7F ∷ 0x0B ∷ []) ≡ Ok []
unfolding functions_on_literals
bodies_none = refl

-- two type, function and code sections: the later count
types_later : types_behind (0x01 ∷ 0x05 ∷ 0x01 ∷ 0x60 ∷ 0x01 ∷ 0x7D ∷ 0x00 ∷ 0x03 ∷ 0x02 ∷ 0x01 ∷ 0x02 ∷ 0x03 ∷ 0x03 ∷ 0x02 ∷ 0x00 ∷ 0x01 ∷ 0x0A ∷ 0x06 ∷ 0x01 ∷ 0x04 ∷ 0x01 ∷ 0x07 ∷ 0x7F ∷ 0x0B ∷ 0x0A ∷ 0x0B ∷ 0x02 ∷ 0x04 ∷ 0x01 ∷ 0x01 ∷ 0x7C ∷ 0x0B ∷ 0x04 ∷ 0x01 ∷ 0x01 ∷ 0x7F ∷ 0x0B ∷ []) ≡ Ok (record { params = (F32 ∷ []); locals = ((1, F64) ∷ []) } ∷ no_local_types ∷ [])
unfolding functions_on_literals
types_later = refl

-- redundant bytes in numbers
redundant : types_in (0x01 ∷ 0x09 ∷ 0x81 ∷ 0x80 ∷ 0x00 ∷ 0x60 ∷ 0x81 ∷ 0x00 ∷ 0x7F ∷ 0x80 ∷ 0x00 ∷ 0x03 ∷ 0x02 ∷ 0x01 ∷ 0x00 ∷ 0x0A ∷ 0x0A ∷ 0x81 ∷ 0x00 ∷ 0x85 ∷ 0x80 ∷ 0x00 ∷ 0x81 ∷ 0x00 ∷ 0x82 ∷ 0x00 ∷ 0x7E ∷ []) ≡ Ok (record { params = (I32 ∷ []); locals = ((2, I64) ∷ []) } ∷ [])
unfolding functions_on_literals
redundant = refl

-- a type of another form stands first: none of the types can be read
form_first : types_in (0x01 ∷ 0x09 ∷ 0x02 ∷ 0x5F ∷ 0x01 ∷ 0x7F ∷ 0x00 ∷ 0x60 ∷ 0x01 ∷ 0x7F ∷ 0x00 ∷ 0x03 ∷ 0x02 ∷ 0x01 ∷ 0x01 ∷ 0x0A ∷ 0x06 ∷ 0x01 ∷ 0x04 ∷ 0x01 ∷ 0x01 ∷ 0x7F ∷ 0x0B ∷ []) ≡ Ok (no_local_types ∷ [])
unfolding functions_on_literals
form_first = refl

-- sections in another order, with names between them
sections_any_order : types_in (0x0A ∷ 0x06 ∷ 0x01 ∷ 0x04 ∷ 0x01 ∷ 0x03 ∷ 0x7C ∷ 0x0B ∷ 0x00 ∷ 0x05 ∷ 0x04 ∷ 0x6E ∷ 0x61 ∷ 0x6D ∷ 0x65 ∷ 0x03 ∷ 0x02 ∷ 0x01 ∷ 0x00 ∷ 0x01 ∷ 0x05 ∷ 0x01 ∷ 0x60 ∷ 0x01 ∷ 0x7E ∷ 0x00 ∷ []) ≡ Ok (record { params = I64 ∷ []; locals = (3, F64) ∷ [] } ∷ [])
unfolding functions_on_literals
sections_any_order = refl

-- a count of groups that does not fit 64 bits, and a count of bodies that is cut
counts_broken : types_behind (0x03 ∷ 0x02 ∷ 0x01 ∷ 0x00 ∷ 0x0A ∷ 0x0C ∷ 0x01 ∷ 0x0A ∷ 0xFF ∷ 0xFF ∷ 0xFF ∷ 0xFF ∷ 0xFF ∷ 0xFF ∷ 0xFF ∷ 0xFF ∷ 0xFF ∷ 0x7F ∷ []) ≡ Ok (no_local_types ∷ [])
unfolding functions_on_literals
counts_broken = refl

count_of_bodies_cut : types_behind (0x03 ∷ 0x02 ∷ 0x01 ∷ 0x00 ∷ 0x0A ∷ 0x01 ∷ 0x80 ∷ []) ≡ Ok (no_local_types ∷ [])
unfolding functions_on_literals
count_of_bodies_cut = refl

-- a file whose function section goes on behind its numbers is none
functions_rest : types_behind (0x03 ∷ 0x03 ∷ 0x01 ∷ 0x00 ∷ 0x00 ∷ []) ≡ Err 34
unfolding functions_on_literals
functions_rest = refl

-- ---- value types

-- how many of the bytes from 0 up, as many as said, are the four types of numbers
abbrev numbers_below : ℕ → ℕ
numbers_below zero = 0
numbers_below (suc n) = elim (value_type n) [ Other ↦ numbers_below n | I32 ↦ suc (numbers_below n) | I64 ↦ suc (numbers_below n) | F32 ↦ suc (numbers_below n) | F64 ↦ suc (numbers_below n) ]

-- of all bytes four, from 0x7C to 0x7F
of_all_bytes : map numbers_below (0x7C ∷ 0x7D ∷ 0x80 ∷ 256 ∷ []) ≡ 0 ∷ 1 ∷ 4 ∷ 4 ∷ []
of_all_bytes = refl

-- ---- bodies

-- where a body begins, counted from the contents of the code section, and how many bytes it has
abbrev pub body_places : Result WasmModule ℕ → List (ℕ × ℕ)
body_places (Err place) = []
body_places (Ok m) = map (λ body. (wasm_code_offset body.place m.code_offset, length body.left)) (bodies m)

-- the body of the small module, which lies from 2 to 13
small_body : body_places (wasm_module file_small) ≡ (2, 11) ∷ []
unfolding functions_on_literals
small_body = refl

small_types : types_of (wasm_module file_small) ≡ Ok (no_local_types ∷ [])
unfolding functions_on_literals
small_types = refl

-- a body of 11 bytes, as that module has it, behind its size
abbrev eleven : List ℕ
eleven = 0x0B ∷ 0x00 ∷ 0x01 ∷ 0x01 ∷ 0x01 ∷ 0x01 ∷ 0x01 ∷ 0x01 ∷ 0x01 ∷ 0x01 ∷ 0x01 ∷ 0x0B ∷ []

-- two such bodies
two_bodies : body_places (wasm_module (preamble ++ 0x01 ∷ 0x04 ∷ 0x01 ∷ 0x60 ∷ 0x00 ∷ 0x00 ∷ 0x03 ∷ 0x03 ∷ 0x02 ∷ 0x00 ∷ 0x00 ∷ 0x0A ∷ 0x19 ∷ 0x02 ∷ eleven ++ eleven)) ≡ (2, 11) ∷ (14, 11) ∷ []
unfolding functions_on_literals
two_bodies = refl

-- sizes of one and of two bytes; a body of no bytes; behind the last, bytes that belong to none
sizes : body_places (wasm_module (preamble ++ 0x0A ∷ 0x09 ∷ 0x02 ∷ 0x00 ∷ 0x82 ∷ 0x00 ∷ 0x00 ∷ 0x0B ∷ 0x01 ∷ 0x00 ∷ 0x0B ∷ [])) ≡ (2, 0) ∷ (4, 2) ∷ []
unfolding functions_on_literals
sizes = refl

-- a body that passes the section is none, nor is what stands behind it
one_past : body_places (wasm_module (preamble ++ 0x0A ∷ 0x07 ∷ 0x03 ∷ 0x02 ∷ 0x00 ∷ 0x0B ∷ 0x03 ∷ 0x00 ∷ 0x0B ∷ [])) ≡ (2, 2) ∷ []
unfolding functions_on_literals
one_past = refl

-- ---- wrong answers

abbrev parameter_counts : Result (List LocalTypes) ℕ → List ℕ
parameter_counts (Err place) = []
parameter_counts (Ok types) = map (λ t. length t.params) types

-- parameters of a function whose locals cannot be read
parameters_alone : types_behind (0x03 ∷ 0x02 ∷ 0x01 ∷ 0x00 ∷ 0x0A ∷ 0x03 ∷ 0x01 ∷ 0x01 ∷ 0x01 ∷ []) ≡ Ok (record { params = I32 ∷ I64 ∷ F32 ∷ F64 ∷ []; locals = [] } ∷ []) → ⊥
unfolding functions_on_literals
parameters_alone is = let wrong : ◌≡◌ {A = ℕ} 0 4 = ap (λ r. get_or (parameter_counts r) 0 0) is in absurd (omega (arith, wrong))

-- the types by the place of the function, not by its number of a type
by_place : types_behind (0x03 ∷ 0x02 ∷ 0x01 ∷ 0x02 ∷ 0x0A ∷ 0x04 ∷ 0x01 ∷ 0x02 ∷ 0x00 ∷ 0x0B ∷ []) ≡ Ok (record { params = I32 ∷ I64 ∷ F32 ∷ F64 ∷ []; locals = [] } ∷ []) → ⊥
unfolding functions_on_literals
by_place is = let wrong : ◌≡◌ {A = ℕ} 3 4 = ap (λ r. get_or (parameter_counts r) 0 0) is in absurd (omega (arith, wrong))

-- a body that begins with its size
at_its_size : body_places (wasm_module file_small) ≡ (1, 12) ∷ [] → ⊥
unfolding functions_on_literals
at_its_size is = let wrong : ◌≡◌ {A = ℕ} 2 1 = ap (λ (places : List (ℕ × ℕ)). get_or (map (λ p. p.0) places) 0 0) is in absurd (omega (arith, wrong))
