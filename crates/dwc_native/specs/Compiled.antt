-- What a code generator tells of where values lie. (No standard has this: it is the code generator's own.)
use Rattle.std.specs.Prelude.{ℕ, ◌-◌, ℤ, List, [], Option, None, slice_get}
use Rattle.std.specs.Option.{unwrap_or}
use Rattle.dwc_base.specs.declared.records.OutputFor.{OutputFor}
use Rattle.dwc_base.specs.declared.records.OutputFor.TheVariants.{Default}
use Rattle.dwc_native.specs.CallFrames.{FrameDescription}

-- where a value lies: in a register of the code generator, or in memory at an offset from the canonical frame address
pub data Place : Type 0 where
  in_register : ℕ → Place
  at_frame_offset : ℤ → Place

-- where a value lies from one native offset up to, and without, another
pub record LabelRange : Type 0 where
  pub place : Place
  pub start : ℕ
  pub end : ℕ

-- the linear memory of a module: none, its base's offset in the context, or the offset there of a pointer to its definition
-- and the offset of its base in that
pub data Memory : Type 0 where
  no_memory : Memory
  defined : ℕ → Memory
  imported : ℕ → ℕ → Memory

-- The names of the functions that make a context the one in use, and a native pointer of an address in a linear memory.
pub record LinkageNames : Type 0 where
  pub set_memory : List ℕ
  pub resolve_memory : List ℕ

-- What is told of a module beside its functions: whom the output is for; the module's place among all; where the values of each function lie,
-- by its number and their labels; those labels, in rising order; how each function
-- unwinds, if that is told; the linear memory; the DWARF numbers of the target's registers; and the
-- names of its own functions.
pub record ToldModule : Type 0 where
  pub output : OutputFor
  pub place : ℕ
  pub values : ℕ → ℕ → List LabelRange
  pub labels : ℕ → List ℕ
  pub frames : ℕ → Option FrameDescription
  pub memory : Memory
  pub register : ℕ → Option ℕ
  pub names : LinkageNames

-- where the values lie of functions whose numbers follow one another, by these: the values of each in order, the first of them with a number
abbrev pub values_from : ℕ → List (ℕ → List LabelRange) → ℕ → ℕ → List LabelRange
values_from first functions number = unwrap_or (slice_get functions (number - first)) (λ label. [])

-- the labels of those values
abbrev pub labels_from : ℕ → List (List ℕ) → ℕ → List ℕ
labels_from first functions number = unwrap_or (slice_get functions (number - first)) []

-- how those functions unwind
abbrev pub frames_from : ℕ → List (Option FrameDescription) → ℕ → Option FrameDescription
frames_from first functions number = unwrap_or (slice_get functions (number - first)) None

-- of a module of which nothing is told
abbrev pub nothing_told : ToldModule
nothing_told = record {
  output = Default;
  place = 0;
  values = λ function label. [];
  labels = λ function. [];
  frames = λ function. None;
  memory = no_memory;
  register = λ r. None;
  names = record { set_memory = []; resolve_memory = [] };
}
