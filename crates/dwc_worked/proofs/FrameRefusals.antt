-- Which common entries can be written, which frame descriptions are refused and in which order, whose frames an output has, and how
-- long they can be at most.
use Rattle.std.proofs.Common.{◌≡◌, ◌+◌, ℕ, pos, negsuc, List, [], ◌∷◌, map, length, Some, None, true, false, ap, arith, refl}
use Rattle.std.specs.Prelude.{◌==◌, if◌then◌else◌, sum_by, Option, codes, replicate}
use Rattle.std.specs.List.{flat_map}
use Rattle.dwc_base.specs.declared.records.OutputFor.TheVariants.{Default}
use Rattle.dwc_base.specs.declared.records.Endian.TheVariants.{Little}
use Rattle.dwc_native.specs.Functions.{Function}
use Rattle.dwc_base.specs.Outputs.{OutputSection}
use Rattle.dwc_native.specs.CallFrames.{FrameInstruction, def_cfa, def_cfa_offset, saved_at, remember_state, CommonEntry, FrameDescription, factored_offset, is_sound, is_sound_if}
use Rattle.dwc_output.specs.FrameSections.{frame_section_if, frame_section}
use Rattle.dwc_native.specs.FrameRefusals.{FrameRefusal, bad_code_offset, bad_data_offset, frame_refusals}
use Rattle.dwc_output.specs.FramesCarried.{descriptions, FramesCarried, widest_frames}
use Rattle.dwc_native.specs.UnwindRecords.{system_v, windows_x64, windows_arm64, are_arm_codes, description_told}
use Rattle.dwc_worked.proofs.FrameCases.{a_common_entry, a_description, a_function, usual_entry}
use Rattle.dwc_worked.proofs.OnFrames.{frames_on_literals}
use Rattle.dwc_worked.proofs.TreeInputs.{a_section}

-- ---- common entries

-- the entry of x86-64, with these instructions
abbrev entry_with : List FrameInstruction → CommonEntry
entry_with instructions = a_common_entry 1 (negsuc 7) 16 instructions

-- an offset of a saved register is factored, one of the frame's address only below 0
saved : factored_offset (saved_at 16 (pos 8)) ≡ Some (pos 8)
saved = refl

frame-above : factored_offset (def_cfa 7 (pos 12)) ≡ None
frame-above = refl

frame-below : factored_offset (def_cfa_offset (negsuc 11)) ≡ Some (negsuc 11)
frame-below = refl

sound : is_sound (entry_with (def_cfa 7 (pos 12) ∷ saved_at 16 (negsuc 7) ∷ remember_state ∷ [])) ≡ true
sound = refl

-- -12 is no multiple of -8
unsound-offset : is_sound (entry_with (saved_at 16 (negsuc 11) ∷ [])) ≡ false
unsound-offset = refl

unsound-frame : is_sound (entry_with (def_cfa_offset (negsuc 3) ∷ [])) ≡ false
unsound-frame = refl

no-code-factor : is_sound (record (entry_with []) { code_factor = 0 }) ≡ false
no-code-factor = refl

no-data-factor : is_sound (record (entry_with []) { data_factor = pos 0 }) ≡ false
no-data-factor = refl

no-entry : is_sound_if None ≡ true
no-entry = refl

-- ---- refusals

-- what is refused of one description, of the function 3
abbrev refused : ℕ → List (ℕ × FrameInstruction) → List FrameRefusal
refused code_factor instructions = frame_refusals (Some (a_common_entry code_factor (negsuc 7) 16 [])) (a_function 3 30 instructions ∷ [])

none-empty : refused 1 [] ≡ []
none-empty = refl

-- equal code offsets do not fall
none-equal : refused 1 ((4, remember_state) ∷ (4, remember_state) ∷ []) ≡ []
none-equal = refl

falls : refused 1 ((4, remember_state) ∷ (2, remember_state) ∷ []) ≡ bad_code_offset 3 ∷ []
falls = refl

-- a description is refused once for its code offsets
falls-twice : refused 1 ((4, remember_state) ∷ (2, remember_state) ∷ (1, remember_state) ∷ []) ≡ bad_code_offset 3 ∷ []
falls-twice = refl

-- a code offset that is no multiple of the code factor, at the first instruction too; differences alone do not count
no-multiple : refused 4 ((2, remember_state) ∷ []) ≡ bad_code_offset 3 ∷ []
no-multiple = refl

multiple-apart : refused 4 ((2, remember_state) ∷ (6, remember_state) ∷ []) ≡ bad_code_offset 3 ∷ []
multiple-apart = refl

multiples : refused 4 ((0, remember_state) ∷ (4, remember_state) ∷ (12, remember_state) ∷ []) ≡ []
multiples = refl

-- a code offset past the length is not looked at
past-length : refused 1 ((31, remember_state) ∷ []) ≡ []
past-length = refl

-- -9 and 9 are no multiples of -8, 0 and -16 are
offset-9 : refused 1 ((1, saved_at 16 (negsuc 8)) ∷ []) ≡ bad_data_offset 3 ∷ []
offset-9 = refl

offset-up : refused 1 ((1, saved_at 16 (pos 9)) ∷ []) ≡ bad_data_offset 3 ∷ []
offset-up = refl

offset-0 : refused 1 ((1, saved_at 16 (pos 0)) ∷ []) ≡ []
offset-0 = refl

frame-up : refused 1 ((1, def_cfa 7 (pos 9)) ∷ (1, def_cfa_offset (pos 9)) ∷ []) ≡ []
frame-up = refl

frame-down : refused 1 ((1, def_cfa 7 (negsuc 8)) ∷ []) ≡ bad_data_offset 3 ∷ []
frame-down = refl

frame-offset-down : refused 1 ((1, def_cfa_offset (negsuc 8)) ∷ []) ≡ bad_data_offset 3 ∷ []
frame-offset-down = refl

frame-offset-16 : refused 1 ((1, def_cfa_offset (negsuc 15)) ∷ []) ≡ []
frame-offset-16 = refl

-- code before data, also where the bad data offset stands first
both : refused 1 ((4, saved_at 16 (negsuc 8)) ∷ (2, remember_state) ∷ []) ≡ bad_code_offset 3 ∷ bad_data_offset 3 ∷ []
both = refl

-- in the order of functions
two : frame_refusals (Some usual_entry) (a_function 1 0 ((0, saved_at 16 (pos 1)) ∷ []) ∷ a_function 2 0 ((1, remember_state) ∷ (0, remember_state) ∷ []) ∷ []) ≡ bad_data_offset 1 ∷ bad_code_offset 2 ∷ []
two = refl

-- without a common entry nothing is
no-common : frame_refusals None (a_function 3 30 ((4, remember_state) ∷ (2, remember_state) ∷ []) ∷ []) ≡ []
no-common = refl

-- ---- whose frames an output has

abbrev falling : FrameDescription
falling = a_description 30 ((4, remember_state) ∷ (2, remember_state) ∷ [])

abbrev a_defined : ℕ → Option ℕ → Function
a_defined number symbol = record { output = Default; number = number; symbol = symbol; start = 2; end = 13; length = 30; entries = [] }

-- told for each function but the one with the number 2
abbrev told : ℕ → Option FrameDescription
told number = if number == 2 then None else Some falling

-- of functions with a symbol, by their numbers
of-functions : descriptions told (a_defined 0 (Some 0) ∷ a_defined 0 None ∷ a_defined 2 (Some 2) ∷ a_defined 3 (Some 3) ∷ []) ≡ (0, falling) ∷ (3, falling) ∷ []
of-functions = refl

-- without a common entry, and without a description, there is no section
no-section-common : frame_section_if Little 8 None ((0, falling) ∷ []) ≡ []
no-section-common = refl

no-section-descriptions : frame_section_if Little 8 (Some usual_entry) [] ≡ []
no-section-descriptions = refl

-- an output without the section, with it behind another one, and with an empty one of the name
none-carried : FramesCarried Little 8 None [] (a_section (codes ".debug_info") [] [] ∷ [])
none-carried = refl

one-carried : FramesCarried Little 8 (Some usual_entry) (a_function 0 30 [] ∷ []) (a_section (codes ".debug_info") [] [] ∷ frame_section Little 8 usual_entry (a_function 0 30 [] ∷ []) ∷ [])
unfolding frames_on_literals
one-carried = refl

empty-refused : FramesCarried Little 8 None [] (a_section (codes ".debug_frame") [] [] ∷ []) → ⊥
empty-refused e = omega (arith, ap length e)

lost-refused : FramesCarried Little 8 (Some usual_entry) (a_function 0 30 [] ∷ []) (a_section (codes ".debug_info") [] [] ∷ []) → ⊥
unfolding frames_on_literals
lost-refused e = omega (arith, ap length e)

twice-refused : FramesCarried Little 8 (Some usual_entry) (a_function 0 30 [] ∷ []) (frame_section Little 8 usual_entry (a_function 0 30 [] ∷ []) ∷ frame_section Little 8 usual_entry (a_function 0 30 [] ∷ []) ∷ []) → ⊥
unfolding frames_on_literals
twice-refused e = omega (arith, ap length e)

-- where the relocations of sections stand
abbrev places_of : List OutputSection → List ℕ
places_of sections = flat_map (λ s. map (λ r. r.offset) s.relocations) sections

-- an entry that lies elsewhere, as its relocations tell
moved-refused : FramesCarried Little 4 (Some usual_entry) (a_function 0 30 [] ∷ []) (frame_section Little 8 usual_entry (a_function 0 30 [] ∷ []) ∷ []) → ⊥
unfolding frames_on_literals
moved-refused e = omega (arith, ap (λ xs. sum_by (λ n. n) (places_of xs)) e)

-- ---- records of a code generator

-- that of System V before the one that stands beside it, which serves where the record is one of Windows or is not there
system_v-first : description_told (Some (system_v falling)) (Some (a_description 1 [])) ≡ Some falling
system_v-first = refl

windows-beside : description_told (Some (windows_x64 (0x01 ∷ []))) (Some falling) ≡ Some falling
windows-beside = refl

windows-alone : description_told (Some (windows_arm64 [])) None ≡ None
windows-alone = refl

beside-alone : description_told None (Some falling) ≡ Some falling
beside-alone = refl

-- whole words, at most 255 of them
codes-none : are_arm_codes [] ≡ true
codes-none = refl

codes-word : are_arm_codes (replicate 4 0xE4) ≡ true
codes-word = refl

codes-cut : are_arm_codes (replicate 3 0xE4) ≡ false
codes-cut = refl

codes-most : are_arm_codes (replicate 1020 0xE4) ≡ true
codes-most = refl

codes-more : are_arm_codes (replicate 1024 0xE4) ≡ false
codes-more = refl

-- ---- sizes

-- a common entry with two instructions and a description with one: lengths, 4 for its mark, 3 bytes, two factors, 2 opcodes and 3
-- numbers of variable length; then 4, two numbers of an address's size, an advance, an opcode and a number; and 7 bytes each
widest-usual : widest_frames (Some usual_entry) (a_function 0 30 ((1, def_cfa_offset (pos 16)) ∷ []) ∷ []) ≡ (4 + 4 + 3 + 20 + (1 + 10 + 10) + (1 + 10) + 7) + (4 + 4 + 16 + 1 + (1 + 10) + 7)
widest-usual = refl

widest-none : widest_frames (Some usual_entry) [] ≡ 0
widest-none = refl

widest-no-common : widest_frames None (a_function 0 30 [] ∷ []) ≡ 0
widest-no-common = refl
