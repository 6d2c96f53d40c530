-- The records by which a code generator tells how the code of a function unwinds, in the form of its target's system. (DWARF 4 and 5,
-- section 6.4, which the System V ABI takes up; the forms of Windows are its own.)
use Rattle.std.specs.Prelude.{ℕ, ◌%◌, ◌==◌, List, length, Bool, nat_le, ◌&&◌, Option, Some}
use Rattle.dwc_native.specs.CallFrames.{FrameDescription}

-- A record: a frame description of System V, or the unwind codes of Windows on x64 or on ARM64.
pub data UnwindRecord : Type 0 where
  system_v : FrameDescription → UnwindRecord
  windows_x64 : List ℕ → UnwindRecord
  windows_arm64 : List ℕ → UnwindRecord

-- whether bytes are unwind codes for ARM64: whole words of 4 bytes, whose count has 8 bits
abbrev pub are_arm_codes : List ℕ → Bool
are_arm_codes codes = (length codes % 4 == 0) && nat_le (length codes) 1020

-- The frame description of a function: that of its record, where this is one of System V, and else the one that stands beside it.
abbrev pub description_told : Option UnwindRecord → Option FrameDescription → Option FrameDescription
description_told (Some (system_v d)) beside = Some d
description_told _ beside = beside
