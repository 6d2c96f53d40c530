-- How code unwinds, as it is told: what the frames of all functions share, and how the frame of one function changes along its code.
-- (DWARF 4 and 5, section 6.4.)
use Rattle.std.specs.Prelude.{ℕ, ℤ, pos, negsuc, nat_abs, ◌%◌, ◌==◌, List, Bool, true, not, ◌&&◌, Option, Some, None}
use Rattle.std.specs.List.{list_all}

-- an instruction of a call frame, by what it says and not by how it is spelled; offsets are in bytes (section 6.4.2)
pub data FrameInstruction : Type 0 where
  def_cfa : ℕ → ℤ → FrameInstruction
  def_cfa_register : ℕ → FrameInstruction
  def_cfa_offset : ℤ → FrameInstruction
  restore : ℕ → FrameInstruction
  undefined : ℕ → FrameInstruction
  same_value : ℕ → FrameInstruction
  saved_at : ℕ → ℤ → FrameInstruction
  remember_state : FrameInstruction
  restore_state : FrameInstruction

-- a common information entry (section 6.4.1)
pub record CommonEntry : Type 0 where
  pub code_factor : ℕ
  pub data_factor : ℤ
  pub return_register : ℕ
  pub instructions : List FrameInstruction

-- What a frame description entry says of a function: how many bytes of code it speaks of, and instructions, each with the native
-- offset from which it holds (section 6.4.1).
pub record FrameDescription : Type 0 where
  pub length : ℕ
  pub instructions : List (ℕ × FrameInstruction)

-- ---- factored offsets

-- an offset that is below 0
abbrev pub below_zero : ℤ → Option ℤ
below_zero (pos n) = None
below_zero (negsuc n) = Some (negsuc n)

-- the offset of an instruction that is written in units of the data factor
abbrev pub factored_offset : FrameInstruction → Option ℤ
factored_offset (saved_at register offset) = Some offset
factored_offset (def_cfa register offset) = below_zero offset
factored_offset (def_cfa_offset offset) = below_zero offset
factored_offset _ = None

-- whether a number, if there is one, is so many times a factor that is not 0
abbrev pub is_multiple_of : ℤ → Option ℤ → Bool
is_multiple_of factor None = true
is_multiple_of factor (Some z) = nat_abs z % nat_abs factor == 0

-- whether the factored offset of an instruction, if it has one, is so many times the data factor
abbrev pub has_factored_offset : ℤ → FrameInstruction → Bool
has_factored_offset factor i = is_multiple_of factor (factored_offset i)

-- Whether a common information entry can be written: its factors are not 0, and its factored offsets are multiples of the data factor.
abbrev pub is_sound : CommonEntry → Bool
is_sound c = not (c.code_factor == 0) && not (nat_abs c.data_factor == 0) && list_all (has_factored_offset c.data_factor) c.instructions

-- an entry, if there is one, can be written
abbrev pub is_sound_if : Option CommonEntry → Bool
is_sound_if None = true
is_sound_if (Some c) = is_sound c
