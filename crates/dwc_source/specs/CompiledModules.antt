-- What a code generator tells of a module beside its address maps, as the definitions have it.
use Rattle.std.specs.Prelude.{◌≡◌, ℕ, ◌≤◌, ◌<◌, ◌+◌, List, [], map, length, Option, IfSome, All}
use Rattle.std.specs.Option.{unwrap_or}
use Rattle.std.specs.FinMap as finite
use Rattle.dwc_base.specs.declared.records.OutputFor.{OutputFor}
use Rattle.dwc_native.specs.Compiled.{LabelRange, LinkageNames, ToldModule, frames_from, labels_from, values_from}
use Rattle.dwc_native.specs.CallFrames.{FrameDescription}
use Rattle.dwc_native.specs.Functions.{Function}
use Rattle.dwc_compiled.specs.FunctionFrames.{description_of_metadata}
use Rattle.dwc_isa.specs.Registers.{Registers}
use Rattle.dwc_isa.specs.ValueLabels.{LabelledRanges}
use Rattle.dwc_addr.specs.declared.linkage_names.LinkageNames as declared
use Rattle.dwc_isa.specs.declared.memory_offset.ModuleMemoryOffset.{ModuleMemoryOffset}
use Rattle.dwc_addr.specs.Numbers.{Compiled}
use Rattle.dwc_isa.specs.ToldModules.{memory_view}
use Rattle.dwc_source.specs.declared.compiled_module.CompiledModule.{CompiledModule}

-- the ranges of a label; one that is not there has none
abbrev pub ranges_of : LabelledRanges → ℕ → List LabelRange
ranges_of values label = unwrap_or (finite.get values label) []

-- where the values of each of some functions lie
abbrev pub values_in : List Compiled → List (ℕ → List LabelRange)
values_in fs = map (λ f. λ label. ranges_of (f.1).value_labels_ranges label) fs

-- the labels of those values
abbrev pub labels_in : List Compiled → List (List ℕ)
labels_in fs = map (λ f. finite.keys (f.1).value_labels_ranges) fs

-- how those functions unwind
abbrev pub frames_in : List Compiled → List (Option FrameDescription)
frames_in fs = map (λ f. description_of_metadata f.1) fs

-- the names of functions of the run time
abbrev pub names_view : declared.LinkageNames → LinkageNames
names_view n = record { set_memory = n.set_memory.now; resolve_memory = n.resolve_memory.now }

-- what is told, for some output, of the module at a place, of whose functions the first has a number, for a target that numbers registers
abbrev pub told_module : OutputFor → ℕ → ℕ → List Compiled → ModuleMemoryOffset → Registers → LinkageNames → ToldModule
told_module output place first fs memory registers names = record {
  output = output;
  place = place;
  values = values_from first (values_in fs);
  labels = labels_from first (labels_in fs);
  frames = frames_from first (frames_in fs);
  memory = memory_view memory;
  register = λ r. finite.get registers r;
  names = names;
}

abbrev pub told_by : Registers → CompiledModule → ToldModule
told_by registers m = told_module m.output_for m.place m.first_number m.functions.now m.memory registers (names_view m.names)

-- The functions with a symbol are numbered by it, from one on, fewer than said.
abbrev pub AreNumberedFrom : ℕ → ℕ → List Function → Type 0
AreNumberedFrom first count fs = All (λ f. IfSome f.symbol (λ n. (f.number ≡ n) × (first ≤ n) × (n < first + count))) fs

-- the functions that an address transform has are those that are told of
abbrev pub HasFrames : CompiledModule → List Function → Type 0
HasFrames m fs = AreNumberedFrom m.first_number (length m.functions.now) fs
