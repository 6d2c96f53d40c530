-- What a map file tells of how code unwinds: the common information entry of a target, and the frame record of a function. It has no
-- value where a number is out of its range, or anything is of the wrong kind.
use Rattle.std.specs.Prelude.{ℕ, ℤ, List, [], ◌∷◌, Option, Some, None, option_map, codes}
use Rattle.serde_json.specs.Data.{Data, array, Items, no_items, item, Members}
use Rattle.dwc_native.specs.CallFrames.{FrameInstruction, def_cfa, def_cfa_register, def_cfa_offset, restore, undefined, same_value, saved_at, remember_state, restore_state, CommonEntry, FrameDescription, is_sound}
use Rattle.dwc_map.specs.MapValues.{◌>>=◌, only_if, u8_of, u16_of, u32_of, i8_of, i32_of, nullable, text_of, list_of, pair_of, members_of, required, with_default, named_in}

-- ---- instructions

-- an instruction without operands
abbrev pub alone : FrameInstruction → Items → Option FrameInstruction
alone instruction no_items = Some instruction
alone instruction _ = None

-- an instruction with a register
abbrev pub of_register : (ℕ → FrameInstruction) → Items → Option FrameInstruction
of_register instruction (item r no_items) = option_map instruction (u16_of r)
of_register instruction _ = None

-- an instruction with an offset
abbrev pub of_offset : (ℤ → FrameInstruction) → Items → Option FrameInstruction
of_offset instruction (item n no_items) = option_map instruction (i32_of n)
of_offset instruction _ = None

-- an instruction with a register and an offset
abbrev pub of_both : (ℕ → ℤ → FrameInstruction) → Items → Option FrameInstruction
of_both instruction (item r (item n no_items)) = do
  register ← u16_of r
  offset ← i32_of n
  Some (instruction register offset)
of_both instruction _ = None

-- the instructions by their names
abbrev pub instruction_kinds : List (List ℕ × (Items → Option FrameInstruction))
instruction_kinds =
    (codes "cfa", of_both def_cfa)
    ∷ (codes "cfa_register", of_register def_cfa_register)
    ∷ (codes "cfa_offset", of_offset def_cfa_offset)
    ∷ (codes "restore", of_register restore)
    ∷ (codes "undefined", of_register undefined)
    ∷ (codes "same_value", of_register same_value)
    ∷ (codes "offset", of_both saved_at)
    ∷ (codes "remember", alone remember_state)
    ∷ (codes "restore_state", alone restore_state) ∷ []

-- an instruction: a list of its name and its operands
abbrev pub instruction_of : Data → Option FrameInstruction
instruction_of (array (item name operands)) = text_of name >>= named_in instruction_kinds >>= λ kind. kind operands
instruction_of _ = None

-- ---- objects

-- a frame record: how many bytes of code it speaks of, and instructions with their code offsets
unfoldable pub frame_of : Data → Option FrameDescription
frame_of d = do
  ms ← members_of d
  length ← required (codes "len") u32_of ms
  instructions ← required (codes "ops") (list_of (pair_of u32_of instruction_of)) ms
  Some (record { length = length; instructions = instructions })

-- a common information entry only where it can be written
abbrev pub if_sound : CommonEntry → Option CommonEntry
if_sound c = only_if (is_sound c) c

-- a common information entry
unfoldable pub cie_of : Data → Option CommonEntry
cie_of d = do
  ms ← members_of d
  code_factor ← required (codes "code_factor") u8_of ms
  data_factor ← required (codes "data_factor") i8_of ms
  return_register ← required (codes "return_register") u8_of ms
  instructions ← required (codes "ops") (list_of instruction_of) ms
  if_sound (record { code_factor = code_factor; data_factor = data_factor; return_register = return_register; instructions = instructions })

-- ---- the two fields

-- the common information entry of a target, none where it is null or not there
abbrev pub cie_in : Members → Option (Option CommonEntry)
cie_in ms = with_default (codes "cie") None (nullable cie_of) ms

-- the frame record of a function, none where it is null or not there
abbrev pub frame_in : Members → Option (Option FrameDescription)
frame_in ms = with_default (codes "frame") None (nullable frame_of) ms
