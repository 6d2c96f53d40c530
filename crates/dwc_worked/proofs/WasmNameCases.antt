-- Names that a WebAssembly file tells in its section `name`, and sections that are broken in each place.
use Rattle.std.proofs.Common.{◌≡◌, ℕ, ◌+◌, List, [], ◌∷◌, ◌++◌, length, map, take, Some, None, Ok, Err, Bool, false, refl, sym, ap, true≢false, arith}
use Rattle.std.specs.Prelude.{Option, Result, option_map, codes, get_or}
use Rattle.std.specs.Option.{unwrap_or}
use Rattle.std.specs.Str.{bytes_eq}
use Rattle.dwc_base.specs.Wasm.{WasmModule, wasm_module, preamble}
use Rattle.dwc_base.specs.WasmNames.{name_of_module, names_of_functions, names_of_locals}
use Rattle.dwc_worked.proofs.NamesOnLiterals.{names_on_literals}
use Rattle.dwc_worked.proofs.SmallModule.{file_small}

-- the names of a module
pub record Names : Type 0 where
  pub name : Option (List ℕ)
  pub functions : List (ℕ × List ℕ)
  pub locals : List ((ℕ × ℕ) × List ℕ)

abbrev pub no_names : Names
no_names = record { name = None; functions = []; locals = [] }

abbrev pub names_of : Result WasmModule ℕ → Result Names ℕ
names_of (Err place) = Err place
names_of (Ok m) = Ok (record { name = name_of_module m; functions = names_of_functions m; locals = names_of_locals m })

-- the names in a file of some sections
abbrev pub names_in : List ℕ → Result Names ℕ
names_in sections = names_of (wasm_module (preamble ++ sections))

-- a section `name` of less than 123 bytes
abbrev pub name_section : List ℕ → List ℕ
name_section subsections = 0x00 ∷ (5 + length subsections) ∷ 0x04 ∷ codes "name" ++ subsections

-- the names in a file of such a section alone
abbrev pub names_by : List ℕ → Result Names ℕ
names_by subsections = names_in (name_section subsections)

-- no section
no_section : names_in [] ≡ Ok no_names
unfolding names_on_literals
no_section = refl

-- all three parts, their rows not in order
all_parts : names_by (0x00 ∷ 0x02 ∷ 0x01 ∷ 0x6D ∷ 0x01 ∷ 0x09 ∷ 0x02 ∷ 0x03 ∷ 0x02 ∷ 0x66 ∷ 0x33 ∷ 0x00 ∷ 0x02 ∷ 0x66 ∷ 0x30 ∷ 0x02 ∷ 0x0D ∷ 0x02 ∷ 0x00 ∷ 0x02 ∷ 0x01 ∷ 0x01 ∷ 0x62 ∷ 0x00 ∷ 0x01 ∷ 0x61 ∷ 0x03 ∷ 0x01 ∷ 0x00 ∷ 0x00 ∷ []) ≡ Ok (record { name = Some (codes "m"); functions = ((0, codes "f0") ∷ (3, codes "f3") ∷ []); locals = (((0, 0), codes "a") ∷ ((0, 1), codes "b") ∷ ((3, 0), []) ∷ []) })
unfolding names_on_literals
all_parts = refl

-- an empty section
empty_names : names_by [] ≡ Ok no_names
unfolding names_on_literals
empty_names = refl

-- the module's name twice: the later counts
name_twice : names_by (0x00 ∷ 0x02 ∷ 0x01 ∷ 0x6D ∷ 0x00 ∷ 0x02 ∷ 0x01 ∷ 0x6E ∷ []) ≡ Ok (record { name = Some (codes "n"); functions = []; locals = [] })
unfolding names_on_literals
name_twice = refl

-- the second is broken: the first stands
name_cut_behind : names_by (0x00 ∷ 0x02 ∷ 0x01 ∷ 0x6D ∷ 0x00 ∷ 0x01 ∷ 0x01 ∷ []) ≡ Ok (record { name = Some (codes "m"); functions = []; locals = [] })
unfolding names_on_literals
name_cut_behind = refl

-- one function's name twice, in one part and in two
function_twice : names_by (0x01 ∷ 0x0A ∷ 0x03 ∷ 0x01 ∷ 0x01 ∷ 0x61 ∷ 0x01 ∷ 0x01 ∷ 0x62 ∷ 0x00 ∷ 0x01 ∷ 0x63 ∷ 0x01 ∷ 0x07 ∷ 0x02 ∷ 0x00 ∷ 0x01 ∷ 0x64 ∷ 0x02 ∷ 0x01 ∷ 0x65 ∷ []) ≡ Ok (record { name = None; functions = ((0, codes "d") ∷ (1, codes "b") ∷ (2, codes "e") ∷ []); locals = [] })
unfolding names_on_literals
function_twice = refl

-- one local twice, under one function that stands twice
local_twice : names_by (0x02 ∷ 0x0E ∷ 0x02 ∷ 0x01 ∷ 0x02 ∷ 0x00 ∷ 0x01 ∷ 0x61 ∷ 0x01 ∷ 0x01 ∷ 0x62 ∷ 0x01 ∷ 0x01 ∷ 0x01 ∷ 0x01 ∷ 0x63 ∷ []) ≡ Ok (record { name = None; functions = []; locals = (((1, 0), codes "a") ∷ ((1, 1), codes "c") ∷ []) })
unfolding names_on_literals
local_twice = refl

-- a byte behind the module's name
rest_behind_name : names_by (0x00 ∷ 0x03 ∷ 0x01 ∷ 0x6D ∷ 0x00 ∷ 0x01 ∷ 0x04 ∷ 0x01 ∷ 0x00 ∷ 0x01 ∷ 0x66 ∷ []) ≡ Ok (record { name = None; functions = ((0, codes "f") ∷ []); locals = [] })
unfolding names_on_literals
rest_behind_name = refl

-- a byte behind the names of functions
rest_behind_functions : names_by (0x01 ∷ 0x05 ∷ 0x01 ∷ 0x00 ∷ 0x01 ∷ 0x66 ∷ 0x00 ∷ 0x00 ∷ 0x02 ∷ 0x01 ∷ 0x6D ∷ []) ≡ Ok (record { name = Some (codes "m"); functions = []; locals = [] })
unfolding names_on_literals
rest_behind_functions = refl

-- a byte behind the names of locals
rest_behind_locals : names_by (0x02 ∷ 0x07 ∷ 0x01 ∷ 0x00 ∷ 0x01 ∷ 0x00 ∷ 0x01 ∷ 0x61 ∷ 0x00 ∷ 0x00 ∷ 0x02 ∷ 0x01 ∷ 0x6D ∷ []) ≡ Ok (record { name = Some (codes "m"); functions = []; locals = [] })
unfolding names_on_literals
rest_behind_locals = refl

-- a count that is too large: no names of the part
count_too_large : names_by (0x01 ∷ 0x07 ∷ 0x03 ∷ 0x00 ∷ 0x01 ∷ 0x66 ∷ 0x01 ∷ 0x01 ∷ 0x67 ∷ 0x00 ∷ 0x02 ∷ 0x01 ∷ 0x6D ∷ []) ≡ Ok (record { name = Some (codes "m"); functions = []; locals = [] })
unfolding names_on_literals
count_too_large = refl

-- a count of 2^64 - 1
count_huge : names_by (0x01 ∷ 0x0D ∷ 0xFF ∷ 0xFF ∷ 0xFF ∷ 0xFF ∷ 0xFF ∷ 0xFF ∷ 0xFF ∷ 0xFF ∷ 0xFF ∷ 0x01 ∷ 0x00 ∷ 0x01 ∷ 0x66 ∷ 0x00 ∷ 0x02 ∷ 0x01 ∷ 0x6D ∷ []) ≡ Ok (record { name = Some (codes "m"); functions = []; locals = [] })
unfolding names_on_literals
count_huge = refl

-- a function's number of 2^32: no names of the part
number_wide : names_by (0x01 ∷ 0x0B ∷ 0x02 ∷ 0x00 ∷ 0x01 ∷ 0x66 ∷ 0x80 ∷ 0x80 ∷ 0x80 ∷ 0x80 ∷ 0x10 ∷ 0x01 ∷ 0x67 ∷ 0x02 ∷ 0x0A ∷ 0x01 ∷ 0x80 ∷ 0x80 ∷ 0x80 ∷ 0x80 ∷ 0x10 ∷ 0x01 ∷ 0x00 ∷ 0x01 ∷ 0x61 ∷ 0x00 ∷ 0x02 ∷ 0x01 ∷ 0x6D ∷ []) ≡ Ok (record { name = Some (codes "m"); functions = []; locals = [] })
unfolding names_on_literals
number_wide = refl

-- a number of 2^32 - 1
number_last : names_by (0x01 ∷ 0x08 ∷ 0x01 ∷ 0xFF ∷ 0xFF ∷ 0xFF ∷ 0xFF ∷ 0x0F ∷ 0x01 ∷ 0x67 ∷ []) ≡ Ok (record { name = None; functions = ((4294967295, codes "g") ∷ []); locals = [] })
unfolding names_on_literals
number_last = refl

-- a local's number of 2^32
local_number_wide : names_by (0x02 ∷ 0x0A ∷ 0x01 ∷ 0x00 ∷ 0x01 ∷ 0x80 ∷ 0x80 ∷ 0x80 ∷ 0x80 ∷ 0x10 ∷ 0x01 ∷ 0x61 ∷ []) ≡ Ok no_names
unfolding names_on_literals
local_number_wide = refl

-- names that are no UTF-8
no_utf8 : names_by (0x00 ∷ 0x02 ∷ 0x01 ∷ 0xFF ∷ 0x01 ∷ 0x08 ∷ 0x02 ∷ 0x00 ∷ 0x01 ∷ 0x66 ∷ 0x01 ∷ 0x02 ∷ 0xC0 ∷ 0x80 ∷ 0x02 ∷ 0x06 ∷ 0x01 ∷ 0x00 ∷ 0x01 ∷ 0x00 ∷ 0x01 ∷ 0x61 ∷ []) ≡ Ok (record { name = None; functions = []; locals = (((0, 0), codes "a") ∷ []) })
unfolding names_on_literals
no_utf8 = refl

-- a name of several bytes a character, and one with a zero byte
utf8_and_zero : names_by (0x00 ∷ 0x07 ∷ 0x06 ∷ 0xC3 ∷ 0xA9 ∷ 0xF0 ∷ 0x9D ∷ 0x84 ∷ 0x9E ∷ 0x01 ∷ 0x08 ∷ 0x02 ∷ 0x00 ∷ 0x03 ∷ 0x61 ∷ 0x00 ∷ 0x62 ∷ 0x01 ∷ 0x00 ∷ []) ≡ Ok (record { name = Some (0xC3 ∷ 0xA9 ∷ 0xF0 ∷ 0x9D ∷ 0x84 ∷ 0x9E ∷ []); functions = ((0, (0x61 ∷ 0x00 ∷ 0x62 ∷ [])) ∷ (1, []) ∷ []); locals = [] })
unfolding names_on_literals
utf8_and_zero = refl

-- an unknown part is passed over
unknown_part : names_by (0x09 ∷ 0x02 ∷ 0xFF ∷ 0xFF ∷ 0x00 ∷ 0x02 ∷ 0x01 ∷ 0x6D ∷ []) ≡ Ok (record { name = Some (codes "m"); functions = []; locals = [] })
unfolding names_on_literals
unknown_part = refl

-- a part that passes the section's end ends the reading, those before stand
part_past_end : names_by (0x00 ∷ 0x02 ∷ 0x01 ∷ 0x6D ∷ 0x01 ∷ 0x09 ∷ 0x01 ∷ 0x00 ∷ 0x01 ∷ 0x66 ∷ []) ≡ Ok (record { name = Some (codes "m"); functions = []; locals = [] })
unfolding names_on_literals
part_past_end = refl

-- a part without a size
part_without_size : names_by (0x00 ∷ 0x02 ∷ 0x01 ∷ 0x6D ∷ 0x01 ∷ []) ≡ Ok (record { name = Some (codes "m"); functions = []; locals = [] })
unfolding names_on_literals
part_without_size = refl

-- a size that is cut
part_size_cut : names_by (0x00 ∷ 0x02 ∷ 0x01 ∷ 0x6D ∷ 0x01 ∷ 0x80 ∷ []) ≡ Ok (record { name = Some (codes "m"); functions = []; locals = [] })
unfolding names_on_literals
part_size_cut = refl

-- a size that does not fit
part_size_wide : names_by (0x00 ∷ 0x02 ∷ 0x01 ∷ 0x6D ∷ 0x01 ∷ 0xFF ∷ 0xFF ∷ 0xFF ∷ 0xFF ∷ 0xFF ∷ 0xFF ∷ 0xFF ∷ 0xFF ∷ 0xFF ∷ 0x7F ∷ []) ≡ Ok (record { name = Some (codes "m"); functions = []; locals = [] })
unfolding names_on_literals
part_size_wide = refl

-- a first part that passes the end: nothing behind is read
part_past_end_first : names_by (0x09 ∷ 0xC8 ∷ 0x00 ∷ 0x02 ∷ 0x01 ∷ 0x6D ∷ []) ≡ Ok no_names
unfolding names_on_literals
part_past_end_first = refl

-- two sections: the later alone counts
two_sections : names_in (name_section (0x00 ∷ 0x02 ∷ 0x01 ∷ 0x6D ∷ 0x01 ∷ 0x04 ∷ 0x01 ∷ 0x00 ∷ 0x01 ∷ 0x66 ∷ []) ++ name_section (0x01 ∷ 0x04 ∷ 0x01 ∷ 0x01 ∷ 0x01 ∷ 0x67 ∷ [])) ≡ Ok (record { name = None; functions = ((1, codes "g") ∷ []); locals = [] })
unfolding names_on_literals
two_sections = refl

-- an empty part for the module's name
empty_part_name : names_by (0x00 ∷ 0x00 ∷ 0x01 ∷ 0x00 ∷ 0x02 ∷ 0x00 ∷ []) ≡ Ok no_names
unfolding names_on_literals
empty_part_name = refl

-- the module's name shorter than its length
name_length_cut : names_by (0x00 ∷ 0x04 ∷ 0x05 ∷ 0x61 ∷ 0x62 ∷ 0x63 ∷ []) ≡ Ok no_names
unfolding names_on_literals
name_length_cut = refl

-- an id is one byte: 0x80 0x00 is no other spelling of 0
id_of_two_bytes : names_by (0x80 ∷ 0x00 ∷ 0x00 ∷ 0x02 ∷ 0x01 ∷ 0x6D ∷ []) ≡ Ok (record { name = Some (codes "m"); functions = []; locals = [] })
unfolding names_on_literals
id_of_two_bytes = refl

-- the order of subsections is free
any_order : names_by (0x02 ∷ 0x06 ∷ 0x01 ∷ 0x00 ∷ 0x01 ∷ 0x00 ∷ 0x01 ∷ 0x61 ∷ 0x01 ∷ 0x04 ∷ 0x01 ∷ 0x00 ∷ 0x01 ∷ 0x66 ∷ 0x00 ∷ 0x02 ∷ 0x01 ∷ 0x6D ∷ []) ≡ Ok (record { name = Some (codes "m"); functions = (0, codes "f") ∷ []; locals = ((0, 0), codes "a") ∷ [] })
unfolding names_on_literals
any_order = refl

-- an empty name is a name
name_empty : names_by (0x00 ∷ 0x01 ∷ 0x00 ∷ []) ≡ Ok (record { name = Some []; functions = []; locals = [] })
unfolding names_on_literals
name_empty = refl

-- a function without names of locals, and one whose names are cut: no names of the whole subsection
locals_cut : names_by (0x02 ∷ 0x09 ∷ 0x02 ∷ 0x00 ∷ 0x01 ∷ 0x00 ∷ 0x01 ∷ 0x61 ∷ 0x01 ∷ 0x02 ∷ 0x00 ∷ []) ≡ Ok no_names
unfolding names_on_literals
locals_cut = refl

locals_none : names_by (0x02 ∷ 0x08 ∷ 0x02 ∷ 0x00 ∷ 0x00 ∷ 0x01 ∷ 0x01 ∷ 0x00 ∷ 0x01 ∷ 0x61 ∷ []) ≡ Ok (record { name = None; functions = []; locals = ((1, 0), codes "a") ∷ [] })
unfolding names_on_literals
locals_none = refl

-- numbers with redundant bytes
redundant : names_by (0x00 ∷ 0x83 ∷ 0x00 ∷ 0x81 ∷ 0x00 ∷ 0x6D ∷ 0x01 ∷ 0x07 ∷ 0x81 ∷ 0x00 ∷ 0x82 ∷ 0x80 ∷ 0x00 ∷ 0x01 ∷ 0x66 ∷ []) ≡ Ok (record { name = Some (codes "m"); functions = (2, codes "f") ∷ []; locals = [] })
unfolding names_on_literals
redundant = refl

-- a later section without subsections leaves no names
later_empty : names_in (name_section (0x00 ∷ 0x02 ∷ 0x01 ∷ 0x6D ∷ []) ++ name_section []) ≡ Ok no_names
unfolding names_on_literals
later_empty = refl

-- a section of another title between two others is no such section
other_title : names_in (name_section (0x00 ∷ 0x02 ∷ 0x01 ∷ 0x6D ∷ []) ++ 0x00 ∷ 0x0A ∷ 0x05 ∷ codes "names" ++ 0x00 ∷ 0x02 ∷ 0x01 ∷ 0x6E ∷ []) ≡ Ok (record { name = Some (codes "m"); functions = []; locals = [] })
unfolding names_on_literals
other_title = refl

-- a file that breaks the grammar has none
no_file : names_in (name_section (0x00 ∷ 0x02 ∷ 0x01 ∷ 0x6D ∷ []) ++ 0x03 ∷ 0x01 ∷ 0x01 ∷ []) ≡ Err 22
unfolding names_on_literals
no_file = refl

-- ---- the small module

-- it has no names
small : names_of (wasm_module file_small) ≡ Ok no_names
unfolding names_on_literals
small = refl

-- ---- wrong answers

-- a text, if it is the name of the module
abbrev is_name : List ℕ → Result Names ℕ → Bool
is_name text (Err place) = false
is_name text (Ok names) = unwrap_or (option_map (bytes_eq text) names.name) false

-- the first two numbers of functions that have names
abbrev first_numbers : Result Names ℕ → List ℕ
first_numbers (Err place) = []
first_numbers (Ok names) = take 2 (map (λ e. e.0) names.functions)

-- of two names the first
first_name : names_by (0x00 ∷ 0x02 ∷ 0x01 ∷ 0x6D ∷ 0x00 ∷ 0x02 ∷ 0x01 ∷ 0x6E ∷ []) ≡ Ok (record { name = Some (codes "m"); functions = []; locals = [] }) → ⊥
unfolding names_on_literals
first_name is = true≢false (sym (ap (is_name (codes "m")) is))

-- a name whose subsection goes on behind it
with_rest : names_by (0x00 ∷ 0x03 ∷ 0x01 ∷ 0x6D ∷ 0x00 ∷ []) ≡ Ok (record { name = Some (codes "m"); functions = []; locals = [] }) → ⊥
unfolding names_on_literals
with_rest is = true≢false (sym (ap (is_name (codes "m")) is))

-- functions in the order of the file
file_order : names_by (0x01 ∷ 0x07 ∷ 0x02 ∷ 0x03 ∷ 0x01 ∷ 0x66 ∷ 0x00 ∷ 0x01 ∷ 0x67 ∷ []) ≡ Ok (record { name = None; functions = (3, codes "f") ∷ (0, codes "g") ∷ []; locals = [] }) → ⊥
unfolding names_on_literals
file_order is = let wrong : ◌≡◌ {A = ℕ} 0 3 = ap (λ r. get_or (first_numbers r) 0 0) is in absurd (omega (arith, wrong))

-- one function twice
one_twice : names_by (0x01 ∷ 0x07 ∷ 0x02 ∷ 0x00 ∷ 0x01 ∷ 0x66 ∷ 0x00 ∷ 0x01 ∷ 0x67 ∷ []) ≡ Ok (record { name = None; functions = (0, codes "f") ∷ (0, codes "g") ∷ []; locals = [] }) → ⊥
unfolding names_on_literals
one_twice is = let wrong : ◌≡◌ {A = ℕ} 1 2 = ap (λ r. length (first_numbers r)) is in absurd (omega (arith, wrong))
