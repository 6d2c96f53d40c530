-- Frame tables, as the definitions see them.
use Rattle.std.specs.Prelude.{◌≡◌, ◌+◌, ◌<◌, ◌^◌, ℕ, length, List, [], ◌∷◌, ◌++◌, map, Option, Some, None, Result, Ok, Err, OnOk, FitsSigned, IsSomeAnd}
use Rattle.std.specs.Int.{w8, w32}
use Rattle.std.specs.List.{All, flat_map}
use Rattle.dwc_base.specs.declared.records.Endian.{Endian}
use Rattle.dwc_native.specs.CallFrames.{FrameInstruction, def_cfa, def_cfa_register, def_cfa_offset, restore, undefined, same_value, saved_at, remember_state, restore_state, CommonEntry, FrameDescription}
use Rattle.dwc_output.specs.FrameSections.{FrameNumber, frame_number_bytes, description_relocations}
use Rattle.dwc_output.specs.FramesCarried.{widest_frames}
use Rattle.dwc_base.specs.NumberBytes.{number_bytes}
use Rattle.dwc_base.specs.Outputs.{OutputRelocation, OutputSection, section_view}
use Rattle.dwc_base.specs.declared.output.DwarfSection.{DwarfSection}
use Rattle.dwc_base.specs.declared.section_name.SectionName.TheVariants.{Frame}
use Rattle.dwc_native.specs.FrameRefusals.{FrameRefusal, bad_code_offset, bad_data_offset, frame_refusals}
use Rattle.dwc_isa.specs.CallFrames.{instruction_view, description_view, cie_view}
use Rattle.dwc_isa.specs.declared.frame_op.FrameOp.{FrameOp}
use Rattle.dwc_isa.specs.declared.unwind_info.CfaUnwindInfo.{CfaUnwindInfo}
use Rattle.dwc_section.specs.declared.error.WriteError.{WriteError}
use Rattle.dwc_section.specs.declared.error.WriteError.TheVariants.{TooLarge, InvalidFrameCodeOffset, InvalidFrameDataOffset, OutOfMemory}
use Rattle.dwc_frames.specs.declared.frames.FrameTable.{FrameTable}
use Rattle.dwc_section.specs.Writers.{IsPast, section_of}

-- the bytes of numbers, one behind another
abbrev pub numbers_bytes : Endian → ℕ → List FrameNumber → List ℕ
numbers_bytes order size ns = flat_map (frame_number_bytes order size) ns

-- A call puts numbers of an entry behind what a buffer holds, in one order of bytes, or wants memory.
abbrev pub PutsIn : {E : Type 0} → Endian → List ℕ → List ℕ → Result (Unit {0}) E → List FrameNumber → Type 0
PutsIn order old new result ns = (size : ℕ) → OnOk result (new ≡ old ++ numbers_bytes order size ns)

-- the same in each order
abbrev pub Puts : {E : Type 0} → List ℕ → List ℕ → Result (Unit {0}) E → List FrameNumber → Type 0
Puts old new result ns = (order : Endian) → PutsIn order old new result ns

-- an instruction with the offset from which it holds
abbrev pub advancing_view : ℕ × FrameOp → ℕ × FrameInstruction
advancing_view op = (op.0, instruction_view op.1)

-- a function's frame description
abbrev pub function_view : ℕ × CfaUnwindInfo → ℕ × FrameDescription
function_view f = (f.0, description_view f.1)

-- Registers have 16 bits, offsets 32 with a sign.
abbrev pub FitsInstruction : FrameInstruction → Type 0
FitsInstruction (def_cfa register offset) = (register < 2 ^ 16) × FitsSigned w32 offset
FitsInstruction (def_cfa_register register) = register < 2 ^ 16
FitsInstruction (def_cfa_offset offset) = FitsSigned w32 offset
FitsInstruction (restore register) = register < 2 ^ 16
FitsInstruction (undefined register) = register < 2 ^ 16
FitsInstruction (same_value register) = register < 2 ^ 16
FitsInstruction (saved_at register offset) = (register < 2 ^ 16) × FitsSigned w32 offset
FitsInstruction remember_state = Unit {0}
FitsInstruction restore_state = Unit {0}

-- ---- refusals

-- the error for a refusal
abbrev pub frame_error : FrameRefusal → WriteError
frame_error (bad_code_offset function) = InvalidFrameCodeOffset function
frame_error (bad_data_offset function) = InvalidFrameDataOffset function

-- The first refusal is answered, if there is one.
abbrev pub checked : List FrameRefusal → Result (Unit {0}) WriteError
checked [] = Ok tt
checked (r ∷ rs) = Err (frame_error r)

-- the first refusal
abbrev pub first_refusal : List FrameRefusal → Option FrameRefusal
first_refusal [] = None
first_refusal (r ∷ rs) = Some r

-- the refusal of a frame that a call answers, if it answers one
abbrev pub told_refusal : {A : Type 0} → Result A WriteError → Option FrameRefusal
told_refusal (Err (InvalidFrameCodeOffset function)) = Some (bad_code_offset function)
told_refusal (Err (InvalidFrameDataOffset function)) = Some (bad_data_offset function)
told_refusal _ = None

-- ---- entries

-- the relocations of the entry of a function at a place
abbrev pub description_at : ℕ → ℕ → ℕ × FrameDescription → List OutputRelocation
description_at size place d = description_relocations size place d.0

-- An entry of a function with what stands behind its address: the length, the offset of the common entry, the address, and that.
abbrev pub entry_bytes : Endian → ℕ → List ℕ → List ℕ
entry_bytes order size rest = number_bytes order 4 (4 + size + length rest) ++ (number_bytes order 4 0 ++ (number_bytes order size 0 ++ rest))

-- ---- tables

-- a table: what the frames of all functions share, and the descriptions of functions by their numbers
abbrev pub table_view : FrameTable → CommonEntry × List (ℕ × FrameDescription)
table_view t = (cie_view t.cie, map function_view t.functions.items)

-- the common entry of a table, if there is one, and its descriptions
abbrev pub common_given : Option FrameTable → Option CommonEntry
common_given None = None
common_given (Some t) = Some (table_view t).0

abbrev pub descriptions_given : Option FrameTable → List (ℕ × FrameDescription)
descriptions_given None = []
descriptions_given (Some t) = (table_view t).1

-- what is refused of a table, if there is one, and how long its section can be at most
abbrev pub refused_frames : Option FrameTable → List FrameRefusal
refused_frames frames = frame_refusals (common_given frames) (descriptions_given frames)

abbrev pub widest_given_frames : Option FrameTable → ℕ
widest_given_frames frames = widest_frames (common_given frames) (descriptions_given frames)

-- a section, if there is one
abbrev pub optional_section : Option DwarfSection → List OutputSection
optional_section None = []
optional_section (Some s) = section_view s ∷ []

-- A common entry has a code factor of 8 bits, a data factor of 8 with a sign, and registers and offsets as in instructions.
pub record FitsCommon (c : CommonEntry) : Type 0 where
  pub code : c.code_factor < 2 ^ 8
  pub signed : FitsSigned w8 c.data_factor
  pub instructions : All FitsInstruction c.instructions

-- A refusal that is one of a frame, one for want of memory, or one of a section that is too large at its widest.
abbrev pub IsFrameRefusal : ℕ → WriteError → Type 0
IsFrameRefusal widest OutOfMemory = Unit {0}
IsFrameRefusal widest (TooLarge what) = IsSomeAnd (section_of what) (IsPast Frame widest)
IsFrameRefusal widest _ = Unit {0}
