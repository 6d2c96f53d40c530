-- Built bytes at given places, and label ranges: worked cases.
use Rattle.std.proofs.Common.{◌≡◌, ℕ, pos, negsuc, List, [], ◌∷◌, Some, None, true, false, refl}
use Rattle.std.specs.Prelude.{Option, map, replicate, Bool, Result, Ok, Err}
use Rattle.std.specs.Option.{unwrap_or}
use Rattle.dwc_base.specs.declared.records.OutputFor.TheVariants.{Default}
use Rattle.dwc_base.specs.Reading.{coded}
use Rattle.dwc_native.specs.Compiled.{Place, in_register, at_frame_offset, LabelRange, Memory, no_memory, defined, imported}
use Rattle.dwc_native.specs.Functions.{Function}
use Rattle.dwc_native.specs.Parts.{Part, code, jump, landing_pad, CompiledParts, label_alone, context_label}
use Rattle.dwc_native.specs.Placed.{Frame, NativeRange, built_parts, needed_labels}
use Rattle.dwc_native.specs.LabelRanges.{label_ranges, all_bytes_placed}
use Rattle.dwc_dwarf.specs.Trees.{Location}
use Rattle.dwc_native.specs.Runs.{interval_of}
use Rattle.dwc_native.specs.BuiltExpressions.{Surroundings, BuildRefusal, bad_label_range, without_memory, unmapped_register, BuiltExpressions, built_over}
use Rattle.dwc_native.specs.Built.{Setting, base_place_bytes, location_bytes, value_bytes, built_bytes, jumps_fit}
use Rattle.dwc_worked.proofs.OnExpressions.{built_on_literals}
use Rattle.dwc_worked.proofs.PartCases.{compiled_on}

-- a label's range at a place
abbrev pub from : ℕ → ℕ → Place → LabelRange
from start end place = record { place = place; start = start; end = end }

-- the DWARF numbers of registers
abbrev pub numbers : List (ℕ × ℕ)
numbers = (0, 0) ∷ (1, 12) ∷ (2, 14) ∷ (3, 40) ∷ (4, 31) ∷ (5, 32) ∷ []

-- what an expression compiles to, on what another compiles to
abbrev pub of_bytes : Option (List ℕ) → List ℕ → CompiledParts
of_bytes base bytes = elim (compiled_on base bytes) [ Ok x ↦ unwrap_or x (label_alone 0) | Err place ↦ label_alone 0 ]

-- ---- settings: local 3 in register 1, which is 12; the context in register 2, which is 14, or on the stack

abbrev pub base_of_local_3 : Option (List ℕ)
base_of_local_3 = Some (0xED ∷ 0x00 ∷ 0x03 ∷ 0x9F ∷ [])

abbrev pub setting : Place → Place → Memory → Setting
setting local_3 context memory = record { place = coded ((3, local_3) ∷ (context_label, context) ∷ []); register = coded numbers; memory = memory }

abbrev pub in_registers : Memory → Setting
in_registers memory = setting (in_register 1) (in_register 2) memory

abbrev pub bytes_in : Setting → Option (List ℕ) → List ℕ → List ℕ
bytes_in s base bytes = built_bytes s (built_parts (of_bytes base bytes))

-- ---- built bytes

-- an offset from a frame base of a local in a register, and the context in one
frame_offset : bytes_in (in_registers (defined 80)) base_of_local_3 (0x91 ∷ 0x12 ∷ []) ≡ (124 ∷ 0 ∷ 35 ∷ 18 ∷ 126 ∷ 208 ∷ 0 ∷ 6 ∷ 22 ∷ 12 ∷ 255 ∷ 255 ∷ 255 ∷ 255 ∷ 26 ∷ 34 ∷ [])
unfolding built_on_literals
frame_offset = refl

-- a jump over a read of memory goes as far as that has grown
jump_grows : bytes_in (in_registers (defined 80)) None (49 ∷ 18 ∷ 40 ∷ 2 ∷ 0 ∷ 6 ∷ 48 ∷ 159 ∷ []) ≡ (49 ∷ 18 ∷ 40 ∷ 14 ∷ 0 ∷ 126 ∷ 208 ∷ 0 ∷ 6 ∷ 22 ∷ 12 ∷ 255 ∷ 255 ∷ 255 ∷ 255 ∷ 26 ∷ 34 ∷ 6 ∷ 48 ∷ 159 ∷ [])
unfolding built_on_literals
jump_grows = refl

-- and farther where the read is longer
jump_grows_more : bytes_in (setting (in_register 1) (at_frame_offset (negsuc 15)) (imported 16 8)) None (49 ∷ 18 ∷ 40 ∷ 2 ∷ 0 ∷ 6 ∷ 48 ∷ 159 ∷ []) ≡ (49 ∷ 18 ∷ 40 ∷ 21 ∷ 0 ∷ 145 ∷ 112 ∷ 6 ∷ 17 ∷ 16 ∷ 34 ∷ 6 ∷ 17 ∷ 8 ∷ 34 ∷ 6 ∷ 22 ∷ 12 ∷ 255 ∷ 255 ∷ 255 ∷ 255 ∷ 26 ∷ 34 ∷ 6 ∷ 48 ∷ 159 ∷ [])
unfolding built_on_literals
jump_grows_more = refl

-- backward
jump_back_grows : bytes_in (in_registers (defined 80)) None (49 ∷ 6 ∷ 40 ∷ 252 ∷ 255 ∷ 159 ∷ []) ≡ (49 ∷ 126 ∷ 208 ∷ 0 ∷ 6 ∷ 22 ∷ 12 ∷ 255 ∷ 255 ∷ 255 ∷ 255 ∷ 26 ∷ 34 ∷ 6 ∷ 40 ∷ 240 ∷ 255 ∷ 159 ∷ [])
unfolding built_on_literals
jump_back_grows = refl

-- over a shift to the right
jump_over_shift : bytes_in (in_registers no_memory) None (49 ∷ 40 ∷ 3 ∷ 0 ∷ 50 ∷ 51 ∷ 37 ∷ 159 ∷ []) ≡ (49 ∷ 40 ∷ 10 ∷ 0 ∷ 50 ∷ 51 ∷ 35 ∷ 32 ∷ 22 ∷ 8 ∷ 32 ∷ 36 ∷ 22 ∷ 37 ∷ 159 ∷ [])
unfolding built_on_literals
jump_over_shift = refl

-- to the end
jump_to_end : bytes_in (in_registers no_memory) None (49 ∷ 40 ∷ 1 ∷ 0 ∷ 159 ∷ []) ≡ (49 ∷ 40 ∷ 1 ∷ 0 ∷ 159 ∷ [])
unfolding built_on_literals
jump_to_end = refl

-- the end of an expression that is an address lies before the last part
jump_to_end_of_address : bytes_in (in_registers (defined 80)) None (49 ∷ 47 ∷ 0 ∷ 0 ∷ []) ≡ (49 ∷ 47 ∷ 0 ∷ 0 ∷ 126 ∷ 208 ∷ 0 ∷ 6 ∷ 22 ∷ 12 ∷ 255 ∷ 255 ∷ 255 ∷ 255 ∷ 26 ∷ 34 ∷ [])
unfolding built_on_literals
jump_to_end_of_address = refl

-- a dereference with the context on the stack
read_of_an_import : bytes_in (setting (in_register 1) (at_frame_offset (negsuc 15)) (imported 0 0)) None (48 ∷ 6 ∷ 159 ∷ []) ≡ (48 ∷ 145 ∷ 112 ∷ 6 ∷ 6 ∷ 6 ∷ 22 ∷ 12 ∷ 255 ∷ 255 ∷ 255 ∷ 255 ∷ 26 ∷ 34 ∷ 6 ∷ 159 ∷ [])
unfolding built_on_literals
read_of_an_import = refl

-- values and places: registers below and above 31, frame offsets
abbrev places : List Place
places = in_register 1 ∷ in_register 3 ∷ in_register 4 ∷ in_register 5 ∷ at_frame_offset (negsuc 15) ∷ at_frame_offset (pos 0) ∷ at_frame_offset (pos 300) ∷ []

values_at : map (λ p. value_bytes (in_registers no_memory) (Some p)) places ≡ (124 ∷ 0 ∷ []) ∷ (146 ∷ 40 ∷ 0 ∷ []) ∷ (143 ∷ 0 ∷ []) ∷ (146 ∷ 32 ∷ 0 ∷ []) ∷ (145 ∷ 112 ∷ 6 ∷ []) ∷ (145 ∷ 0 ∷ 6 ∷ []) ∷ (145 ∷ 172 ∷ 2 ∷ 6 ∷ []) ∷ []
unfolding built_on_literals
values_at = refl

locations_at : map (λ p. location_bytes (in_registers no_memory) (Some p)) places ≡ (92 ∷ []) ∷ (144 ∷ 40 ∷ []) ∷ (111 ∷ []) ∷ (144 ∷ 32 ∷ []) ∷ (145 ∷ 112 ∷ []) ∷ (145 ∷ 0 ∷ []) ∷ (145 ∷ 172 ∷ 2 ∷ []) ∷ []
unfolding built_on_literals
locations_at = refl

-- the base of linear memory, by the place of the context
abbrev memories : List Memory
memories = defined 80 ∷ defined 0 ∷ imported 16 8 ∷ imported 0 0 ∷ imported 0 8 ∷ imported 300 0 ∷ []

bases_from_register : map (λ m. base_place_bytes (in_registers m) m (Some (in_register 2))) memories ≡ (126 ∷ 208 ∷ 0 ∷ []) ∷ (126 ∷ 0 ∷ []) ∷ (126 ∷ 16 ∷ 6 ∷ 17 ∷ 8 ∷ 34 ∷ []) ∷ (126 ∷ 0 ∷ 6 ∷ []) ∷ (126 ∷ 0 ∷ 6 ∷ 17 ∷ 8 ∷ 34 ∷ []) ∷ (126 ∷ 172 ∷ 2 ∷ 6 ∷ []) ∷ []
unfolding built_on_literals
bases_from_register = refl

bases_from_high_register : map (λ m. base_place_bytes (in_registers m) m (Some (in_register 3))) memories ≡ (146 ∷ 40 ∷ 208 ∷ 0 ∷ []) ∷ (146 ∷ 40 ∷ 0 ∷ []) ∷ (146 ∷ 40 ∷ 16 ∷ 6 ∷ 17 ∷ 8 ∷ 34 ∷ []) ∷ (146 ∷ 40 ∷ 0 ∷ 6 ∷ []) ∷ (146 ∷ 40 ∷ 0 ∷ 6 ∷ 17 ∷ 8 ∷ 34 ∷ []) ∷ (146 ∷ 40 ∷ 172 ∷ 2 ∷ 6 ∷ []) ∷ []
unfolding built_on_literals
bases_from_high_register = refl

bases_from_stack : map (λ m. base_place_bytes (in_registers m) m (Some (at_frame_offset (negsuc 15)))) memories ≡ (145 ∷ 112 ∷ 6 ∷ 17 ∷ 208 ∷ 0 ∷ 34 ∷ []) ∷ (145 ∷ 112 ∷ 6 ∷ 17 ∷ 0 ∷ 34 ∷ []) ∷ (145 ∷ 112 ∷ 6 ∷ 17 ∷ 16 ∷ 34 ∷ 6 ∷ 17 ∷ 8 ∷ 34 ∷ []) ∷ (145 ∷ 112 ∷ 6 ∷ 6 ∷ []) ∷ (145 ∷ 112 ∷ 6 ∷ 6 ∷ 17 ∷ 8 ∷ 34 ∷ []) ∷ (145 ∷ 112 ∷ 6 ∷ 17 ∷ 172 ∷ 2 ∷ 34 ∷ 6 ∷ []) ∷ []
unfolding built_on_literals
bases_from_stack = refl

-- a jump fits up to 32,767 bytes
abbrev jump_over : ℕ → List Part
jump_over count = jump false 9 ∷ code (replicate count 0x96) ∷ landing_pad 9 ∷ []

fits : map (λ n. jumps_fit (in_registers no_memory) (jump_over n)) (0 ∷ 32767 ∷ 32768 ∷ []) ≡ true ∷ true ∷ false ∷ []
unfolding built_on_literals
fits = refl

abbrev jump_back_over : ℕ → List Part
jump_back_over count = landing_pad 9 ∷ code (replicate count 0x96) ∷ jump false 9 ∷ []

fits_backward : map (λ n. jumps_fit (in_registers no_memory) (jump_back_over n)) (0 ∷ 32765 ∷ 32766 ∷ []) ≡ true ∷ true ∷ false ∷ []
unfolding built_on_literals
fits_backward = refl

-- labels in the order of parts; a read of memory needs the context; bytes alone need nothing
needed : map needed_labels (of_bytes base_of_local_3 (0x91 ∷ 0x12 ∷ []) ∷ of_bytes None (0xED ∷ 0 ∷ 1 ∷ 6 ∷ 0xED ∷ 0 ∷ 2 ∷ 0x22 ∷ 0x9F ∷ []) ∷ of_bytes None (0x31 ∷ []) ∷ label_alone 5 ∷ []) ≡ (3 ∷ context_label ∷ []) ∷ (1 ∷ context_label ∷ 2 ∷ []) ∷ [] ∷ (5 ∷ []) ∷ []
unfolding built_on_literals
needed = refl

-- ---- label ranges

abbrev bytes : ℕ → ℕ → ℕ → NativeRange
bytes function start end = record { function = function; start = start; end = end }

-- a frame of function 0
abbrev frame : List (ℕ × List LabelRange) → Option Frame
frame labels = Some (record { function = Some 0; ranges_of = λ label. unwrap_or (coded labels label) []; memory = no_memory })

abbrev r : ℕ → Place
r n = in_register n

abbrev three_labels : List (ℕ × List LabelRange)
three_labels = (0, from 0 25 (r 0) ∷ []) ∷ (1, from 5 30 (r 1) ∷ []) ∷ (2, from 0 10 (r 2) ∷ from 20 30 (r 2) ∷ []) ∷ []

-- ranges, and whether they are the whole scope
abbrev found : Option Frame → List ℕ → List NativeRange → List NativeRange × Bool
found f labels scope = (label_ranges f labels scope, all_bytes_placed f labels scope)

-- three labels, one with a hole
three : found (frame three_labels) (0 ∷ 1 ∷ 2 ∷ []) (bytes 0 0 23 ∷ []) ≡ (bytes 0 5 10 ∷ bytes 0 20 23 ∷ [], false)
unfolding built_on_literals
three = refl

-- without labels the whole scope
no_labels : found (frame three_labels) ([]) (bytes 0 0 30 ∷ []) ≡ (bytes 0 0 30 ∷ [], true)
unfolding built_on_literals
no_labels = refl

two : found (frame three_labels) (0 ∷ 1 ∷ []) (bytes 0 0 30 ∷ []) ≡ (bytes 0 5 25 ∷ [], false)
unfolding built_on_literals
two = refl

-- a label that is needed twice
twice : found (frame three_labels) (0 ∷ 0 ∷ []) (bytes 0 0 25 ∷ []) ≡ (bytes 0 0 25 ∷ [], true)
unfolding built_on_literals
twice = refl

-- of ranges with one byte the last counts
last_counts : found (frame ((0, from 0 20 (r 0) ∷ from 5 10 (r 1) ∷ []) ∷ [])) (0 ∷ []) (bytes 0 0 20 ∷ []) ≡ (bytes 0 0 5 ∷ bytes 0 5 10 ∷ bytes 0 10 20 ∷ [], true)
unfolding built_on_literals
last_counts = refl

last_counts_whole : found (frame ((0, from 5 10 (r 1) ∷ from 0 20 (r 0) ∷ []) ∷ [])) (0 ∷ []) (bytes 0 0 20 ∷ []) ≡ (bytes 0 0 20 ∷ [], true)
unfolding built_on_literals
last_counts_whole = refl

-- touching ranges with one place are one, with two they are two
same_joined : found (frame ((0, from 0 5 (r 0) ∷ from 5 10 (r 0) ∷ from 10 12 (at_frame_offset (pos 0)) ∷ []) ∷ [])) (0 ∷ []) (bytes 0 0 20 ∷ []) ≡ (bytes 0 0 10 ∷ bytes 0 10 12 ∷ [], false)
unfolding built_on_literals
same_joined = refl

stack_joined : found (frame ((0, from 0 5 (at_frame_offset (negsuc 7)) ∷ from 5 10 (at_frame_offset (negsuc 7)) ∷ from 10 12 (at_frame_offset (pos 7)) ∷ []) ∷ [])) (0 ∷ []) (bytes 0 0 20 ∷ []) ≡ (bytes 0 0 10 ∷ bytes 0 10 12 ∷ [], false)
unfolding built_on_literals
stack_joined = refl

-- an empty range, and one past the scope
empty_range : found (frame ((0, from 7 7 (r 1) ∷ from 15 4294967295 (r 0) ∷ []) ∷ [])) (0 ∷ []) (bytes 0 0 20 ∷ []) ≡ (bytes 0 15 20 ∷ [], false)
unfolding built_on_literals
empty_range = refl

-- a label without ranges, and one that is not there
absent : found (frame ((0, []) ∷ [])) (0 ∷ []) (bytes 0 0 20 ∷ []) ≡ ([], false)
unfolding built_on_literals
absent = refl

absent_label : found (frame []) (4 ∷ []) (bytes 0 0 20 ∷ []) ≡ ([], false)
unfolding built_on_literals
absent_label = refl

-- parts of a scope that overlap, touch, or stand in another order are joined
overlap : found (frame three_labels) (0 ∷ []) (bytes 0 8 12 ∷ bytes 0 0 5 ∷ bytes 0 3 8 ∷ bytes 0 14 16 ∷ []) ≡ (bytes 0 0 12 ∷ bytes 0 14 16 ∷ [], true)
unfolding built_on_literals
overlap = refl

-- in other functions labels have no place
functions : found (frame three_labels) (0 ∷ []) (bytes 2 0 5 ∷ bytes 0 0 5 ∷ []) ≡ (bytes 0 0 5 ∷ [], false)
unfolding built_on_literals
functions = refl

-- functions rise, and are not joined
functions_alone : found (frame three_labels) ([]) (bytes 2 5 9 ∷ bytes 0 0 5 ∷ bytes 1 5 9 ∷ []) ≡ (bytes 0 0 5 ∷ bytes 1 5 9 ∷ bytes 2 5 9 ∷ [], true)
unfolding built_on_literals
functions_alone = refl

-- without a frame
no_frame : found None (0 ∷ []) (bytes 0 0 20 ∷ []) ≡ ([], false)
unfolding built_on_literals
no_frame = refl

no_frame_no_label : found None ([]) (bytes 0 0 20 ∷ []) ≡ (bytes 0 0 20 ∷ [], true)
unfolding built_on_literals
no_frame_no_label = refl

-- a frame of no function
no_symbol : found (Some (record { function = None; ranges_of = λ label. unwrap_or (coded three_labels label) []; memory = no_memory })) (0 ∷ []) (bytes 0 0 20 ∷ []) ≡ ([], false)
unfolding built_on_literals
no_symbol = refl

-- a scope without bytes
no_bytes : found (frame []) (4 ∷ []) ([]) ≡ ([], true)
unfolding built_on_literals
no_bytes = refl

-- one byte
one_byte : found (frame three_labels) (0 ∷ []) (bytes 0 24 26 ∷ []) ≡ (bytes 0 24 25 ∷ [], false)
unfolding built_on_literals
one_byte = refl

-- ---- over a scope

-- a function with source 10 to 20 and 30 bytes, whose sources 12 and 17 stand at 5 and 15
abbrev function : Function
function = record { output = Default; number = 0; symbol = Some 0; start = 10; end = 20; length = 30; entries = (5, Some 12) ∷ (8, None) ∷ (15, Some 17) ∷ (23, None) ∷ [] }

-- what surrounds an expression in that function, by its labels and the memory of its module
abbrev around : List (ℕ × List LabelRange) → Memory → Surroundings
around labels memory = record { functions = function ∷ []; frame = Some (record { function = Some 0; ranges_of = λ label. unwrap_or (coded labels label) []; memory = memory }); register = coded numbers }

abbrev built : List Location → Bool → Result BuiltExpressions BuildRefusal
built ls covers = Ok (record { expressions = ls; covers_entire_scope = covers })

abbrev at : ℕ → ℕ → List ℕ → Location
at start end bytes = record { over = interval_of 0 (start, end); bytes = bytes }

abbrev places_3_and_context : ℕ → List (ℕ × List LabelRange)
places_3_and_context end = (3, from 0 end (r 1) ∷ []) ∷ (context_label, from 0 30 (r 2) ∷ []) ∷ []

abbrev frame_offset_bytes : List ℕ
frame_offset_bytes = 124 ∷ 0 ∷ 35 ∷ 18 ∷ 126 ∷ 208 ∷ 0 ∷ 6 ∷ 22 ∷ 12 ∷ 255 ∷ 255 ∷ 255 ∷ 255 ∷ 26 ∷ 34 ∷ []

-- a local and the memory behind it, over a part of the scope and over the whole
over_a_part : built_over (around (places_3_and_context 20) (defined 80)) ((10, 20) ∷ []) (of_bytes base_of_local_3 (0x91 ∷ 0x12 ∷ [])) ≡ built (at 0 20 frame_offset_bytes ∷ []) false
unfolding built_on_literals
over_a_part = refl

over_the_whole : built_over (around (places_3_and_context 30) (defined 80)) ((10, 20) ∷ []) (of_bytes base_of_local_3 (0x91 ∷ 0x12 ∷ [])) ≡ built (at 0 30 frame_offset_bytes ∷ []) true
unfolding built_on_literals
over_the_whole = refl

-- a scope that begins behind the function's begin
over_less : built_over (around three_labels no_memory) ((11, 17) ∷ []) (of_bytes None (0xED ∷ 0 ∷ 0 ∷ 0x9F ∷ [])) ≡ built (at 0 23 (0x50 ∷ []) ∷ []) true
unfolding built_on_literals
over_less = refl

-- bytes alone are copied, and cover nothing; an empty scope gives nothing
copies : map (λ scope. built_over (around [] no_memory) scope (of_bytes None (0x31 ∷ []))) (((12, 17) ∷ (13, 16) ∷ (16, 16) ∷ (17, 12) ∷ []) ∷ [] ∷ []) ≡ built (at 5 23 (0x31 ∷ []) ∷ at 8 15 (0x31 ∷ []) ∷ []) false ∷ built [] false ∷ []
unfolding built_on_literals
copies = refl

-- refusals: memory that is not there, a register without a number, a range that ends above its begin
refused :
    map (λ s. built_over s ((10, 20) ∷ []) (of_bytes base_of_local_3 (0x91 ∷ 0x12 ∷ [])))
    (around (places_3_and_context 20) no_memory ∷ around ((3, from 0 20 (r 9) ∷ []) ∷ (context_label, from 0 30 (r 2) ∷ []) ∷ []) (defined 80)
    ∷ around ((3, from 0 20 (r 1) ∷ []) ∷ (context_label, from 9 4 (r 2) ∷ []) ∷ []) (defined 80) ∷ [])
    ≡ Err without_memory ∷ Err (unmapped_register 9) ∷ Err (bad_label_range context_label) ∷ []
unfolding built_on_literals
refused = refl

-- they come only where all labels are placed; the memory first, then registers in the order of the parts
not_reached :
    map (λ s. built_over s ((10, 20) ∷ []) (of_bytes base_of_local_3 (0x91 ∷ 0x12 ∷ [])))
    (around ((context_label, from 0 30 (r 2) ∷ []) ∷ []) no_memory ∷ around ((3, from 0 20 (r 9) ∷ []) ∷ (context_label, from 20 30 (r 2) ∷ []) ∷ []) (defined 80)
    ∷ around ((3, from 0 20 (r 9) ∷ []) ∷ (context_label, from 0 30 (r 8) ∷ []) ∷ []) no_memory ∷ around ((3, from 0 20 (r 9) ∷ []) ∷ (context_label, from 0 30 (r 8) ∷ []) ∷ []) (defined 80) ∷ [])
    ≡ built [] false ∷ built [] false ∷ Err without_memory ∷ Err (unmapped_register 9) ∷ []
unfolding built_on_literals
not_reached = refl
