-- What is told of a module: where its memory is found, and the names of the functions of the run time.
use Rattle.std.specs.Prelude.{◌<◌, ℕ, List, All}
use Rattle.dwc_native.specs.Compiled.{Memory, no_memory, defined, imported}
use Rattle.dwc_isa.specs.declared.memory_offset.ModuleMemoryOffset.{ModuleMemoryOffset}
use Rattle.dwc_isa.specs.declared.memory_offset.ModuleMemoryOffset.TheVariants as offset

-- the linear memory of a module
abbrev pub memory_view : ModuleMemoryOffset → Memory
memory_view offset.None = no_memory
memory_view (offset.Defined o) = defined o
memory_view (offset.Imported a b) = imported a b

-- names have no zero byte
abbrev pub AreNames : List ℕ → List ℕ → Type 0
AreNames set_memory resolve_memory = All (λ b. 0 < b) set_memory × All (λ b. 0 < b) resolve_memory
