-- Which frame descriptions cannot be written, in the order in which they are refused. (DWARF 4 and 5, sections 6.4.1 and 6.4.2: code
-- offsets rise in units of the code factor, factored offsets are units of the data factor; the order is this project's own.)
use Rattle.std.specs.Prelude.{ℕ, ◌%◌, ◌==◌, List, [], ◌∷◌, ◌++◌, Bool, true, nat_le, ◌&&◌, if◌then◌else◌, Option, Some, None}
use Rattle.std.specs.List.{flat_map, list_all}
use Rattle.dwc_native.specs.CallFrames.{FrameInstruction, CommonEntry, FrameDescription, has_factored_offset}

-- whether the code offsets of instructions do not fall, and are multiples of the code factor; the first is the one before them
abbrev pub has_code_offsets : ℕ → ℕ → List (ℕ × FrameInstruction) → Bool
has_code_offsets factor before [] = true
has_code_offsets factor before (i ∷ is) = nat_le before i.0 && (i.0 % factor == 0) && has_code_offsets factor i.0 is

-- whether all factored offsets of a description are multiples of the data factor
abbrev pub has_data_offsets : CommonEntry → FrameDescription → Bool
has_data_offsets c d = list_all (λ i. has_factored_offset c.data_factor i.1) d.instructions

-- a description that cannot be written, by the number of its function: for its code offsets, or for a factored offset
pub data FrameRefusal : Type 0 where
  bad_code_offset : ℕ → FrameRefusal
  bad_data_offset : ℕ → FrameRefusal

-- what is refused of a function's description: its code offsets, and then its factored offsets
abbrev pub description_refusals : CommonEntry → ℕ × FrameDescription → List FrameRefusal
description_refusals c d =
    (if has_code_offsets c.code_factor 0 (d.1).instructions then [] else bad_code_offset d.0 ∷ [])
    ++ (if has_data_offsets c d.1 then [] else bad_data_offset d.0 ∷ [])

-- What is refused of descriptions, in their order; nothing without a common entry.
abbrev pub frame_refusals : Option CommonEntry → List (ℕ × FrameDescription) → List FrameRefusal
frame_refusals None ds = []
frame_refusals (Some c) ds = flat_map (description_refusals c) ds
