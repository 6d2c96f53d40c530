-- The simulated functions of all modules, as transforms and the translated numbers tell them, and their code.
use Rattle.std.specs.Prelude.{ℕ, ◌+◌, ◌<◌, ◌^◌, List, [], ◌∷◌, ◌++◌, Bool, if◌then◌else◌, IfSome}
use Rattle.std.specs.List.{filter_map}
use Rattle.dwc_base.specs.declared.translation.ModuleTranslation.{ModuleTranslation}
use Rattle.dwc_native.specs.Functions.{Function}
use Rattle.dwc_carried.specs.SimulatedFunctions.{is_simulated}
use Rattle.dwc_carried.specs.SimulatedUnit.{first_source, whole_interval}
use Rattle.dwc_dwarf.specs.Trees.{Interval}
use Rattle.dwc_addr.specs.Numbers.{Compiled}
use Rattle.dwc_image.specs.SimulatedSequences.{CanSimulate}

-- ---- which are simulated

-- those of a module, each with the offset in its file that the contents of the code section begin at
abbrev pub left_of : (ℕ → Bool) → ℕ → List Function → List (ℕ × Function)
left_of translated code_offset [] = []
left_of translated code_offset (f ∷ fs) = if is_simulated translated f then (code_offset, f) ∷ left_of translated code_offset fs else left_of translated code_offset fs

-- Those of all modules, in order.
abbrev pub left_in : (ℕ → Bool) → List ModuleTranslation → List (List Function) → List (ℕ × Function)
left_in translated [] fss = []
left_in translated (t ∷ ts) [] = []
left_in translated (t ∷ ts) (fs ∷ fss) = left_of translated t.code_section_offset fs ++ left_in translated ts fss

-- ---- what is asked of them

-- the intervals of their code, each whole
abbrev pub intervals_of : List (ℕ × Function) → List Interval
intervals_of fs = filter_map (λ f. whole_interval f.1) fs

-- A function's sources can be written as lines of its file, and its length as an addend.
pub record CanWrite (f : ℕ × Function) : Type 0 where
  pub lists : CanSimulate f.0 f.1
  pub short : f.1.length < 2 ^ 31

-- the first source of a function is a line of its file, in which the contents of the code section begin at an offset
abbrev pub HasFirstLine : ℕ → Function → Type 0
HasFirstLine code_offset f = code_offset + first_source f < 2 ^ 32

-- a compiled function ends in its file at an offset of 32 bits, if it has an end
abbrev pub HasLowEnd : Compiled → Type 0
HasLowEnd f = IfSome f.1.address_map.end_srcloc (λ end. end < 2 ^ 32)
