-- The frame descriptions of compiled functions with their numbers. (DWARF 4 and 5, section 6.4.1; which functions have one is this
-- project's own rule.)
use Rattle.std.specs.Prelude.{◌≡◌, ℕ, ◌+◌, List, [], ◌∷◌, ◌++◌, length, is_some, if◌then◌else◌, Option, None, option_map, Result, OnOk}
use Rattle.std.specs.List.{cons_option}
use Rattle.dwc_base.specs.declared.records.Endian.{Endian}
use Rattle.dwc_native.specs.CallFrames.{CommonEntry, FrameDescription}
use Rattle.dwc_carried.specs.Forests.{frame_descriptions}
use Rattle.dwc_compiled.specs.FunctionFrames.{description_of_metadata}
use Rattle.dwc_isa.specs.Registers.{Registers}
use Rattle.dwc_frames.specs.declared.frames.FrameTable.{FrameTable}
use Rattle.dwc_frames.specs.Frames.{table_view}
use Rattle.dwc_addr.specs.Compilations.{CompilationValue}
use Rattle.dwc_addr.specs.Numbers.{Compiled}
use Rattle.dwc_carry.specs.Inputs.{input_of}

-- a function's number with its frame description, where it has a symbol and a description is told
abbrev pub described : ℕ → Compiled → Option (ℕ × FrameDescription)
described number f = if is_some f.0 then option_map (λ d. (number, d)) (description_of_metadata f.1) else None

-- those of functions in their order, of which the first has a number
abbrev pub compiled_frames : ℕ → List Compiled → List (ℕ × FrameDescription)
compiled_frames number [] = []
compiled_frames number (f ∷ fs) = cons_option (described number f) (compiled_frames (number + 1) fs)

-- Those of the functions of modules, which are numbered over all of them from a number on.
abbrev pub all_frames : ℕ → List (List Compiled) → List (ℕ × FrameDescription)
all_frames number [] = []
all_frames number (fs ∷ modules) = compiled_frames number fs ++ all_frames (number + length fs) modules

-- that of a function, if there is one
abbrev pub described_alone : ℕ → Compiled → List (ℕ × FrameDescription)
described_alone number f = cons_option (described number f) []

-- A table describes the functions of a compilation as its input does, for any target.
abbrev pub DescribesAll : CompilationValue → FrameTable → Type 0
DescribesAll c table = (order : Endian) (pointer_bytes : ℕ) (registers : Registers) (entry : Option CommonEntry) → (table_view table).1 ≡ frame_descriptions (input_of order pointer_bytes registers entry c)

-- A call puts descriptions behind those of a table, or fails.
abbrev pub AddsFrames : {E : Type 0} → List (ℕ × FrameDescription) → FrameTable → FrameTable → Result (Unit {0}) E → Type 0
AddsFrames ds old new result = OnOk result (table_view new ≡ ((table_view old).0, (table_view old).1 ++ ds))
