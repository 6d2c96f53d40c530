-- The program's own map file, seen as the value of a map.
use Rattle.std.specs.Prelude.{◌≡◌, ℕ, ◌<◌, ◌-◌, ◌^◌, IfSome, Bool, false, List, map, String, string_bytes, Option, Some, None, option_map, is_some, Vec}
use Rattle.std.specs.Global.{Global}
use Rattle.std.specs.FinMap as finite
use Rattle.serde_json.specs.Data.{Items}
use Rattle.serde_json.specs.View.{view, items_view}
use Rattle.dwc_base.specs.declared.records.SymbolId.{SymbolId}
use Rattle.dwc_native.specs.CallFrames.{CommonEntry, FrameDescription}
use Rattle.dwc_native.specs.Compiled.{LabelRange, LinkageNames}
use Rattle.dwc_compiled.specs.declared.metadata.CompiledFunctionMetadata.{CompiledFunctionMetadata}
use Rattle.dwc_isa.specs.declared.value_label.ValueLabel.{ValueLabel}
use Rattle.dwc_isa.specs.declared.value_label.ValueLocRange.{ValueLocRange}
use Rattle.dwc_isa.specs.ValueLabels.{LabelledRanges, range_view}
use Rattle.dwc_compiled.specs.AddressMaps.{address_map_view}
use Rattle.dwc_isa.specs.CallFrames.{cie_view}
use Rattle.dwc_compiled.specs.FunctionFrames.{description_of_metadata}
use Rattle.dwc_isa.specs.Registers.{registers_of}
use Rattle.dwc_isa.specs.ToldModules.{memory_view}
use Rattle.dwc_map.specs.MapFile as value
use Rattle.dwc_map.specs.MapFrames as frames
use Rattle.dwc_map.specs.MapValues.{◌>>=◌, u32_of, nullable, all_items, pair_of, value_or}
use Rattle.dwc_map.specs.declared.frames.CieFields.{CieFields}
use Rattle.dwc_map.specs.declared.function.FunctionFields.{FunctionFields}
use Rattle.dwc_map.specs.declared.map_file.TargetFields.{TargetFields}
use Rattle.dwc_map.specs.declared.map_file.Target.{Target}
use Rattle.dwc_map.specs.declared.map_file.Names.{Names}
use Rattle.dwc_map.specs.declared.map_file.MapModule.{MapModule}
use Rattle.dwc_map.specs.declared.map_file.MapFile.{MapFile}

abbrev pub target_view : Target → value.Target
target_view t = record { architecture = t.arch; big_endian = t.big_endian; pointer_bytes = t.pointer_bytes; version = t.version; output = t.output_for; registers = registers_of t.registers.items; common_entry = option_map cie_view t.cie }

-- a target from its fields, whose registers and common information entry are still values; none where these are no table of
-- registers and no entry
abbrev pub target_with : TargetFields → Option value.Target
target_with f =
    value_or finite.empty value.register_numbers_of (option_map (λ v. view v.now) f.registers)
    >>= λ registers. value_or None (nullable frames.cie_of) (option_map (λ v. view v.now) f.cie)
    >>= λ common_entry. Some (record {
      architecture = f.arch;
      big_endian = f.big_endian;
      pointer_bytes = f.pointer_bytes;
      version = f.version;
      output = f.output_for;
      registers = registers;
      common_entry = common_entry;
    })

-- a common information entry from its fields, whose instructions are still values; none where these are none, or it cannot be written
abbrev pub cie_with : CieFields → Option CommonEntry
cie_with f = all_items frames.instruction_of (items_view f.ops.now) >>= λ instructions. frames.if_sound (record {
  code_factor = f.code_factor;
  data_factor = f.data_factor;
  return_register = f.return_register;
  instructions = instructions;
})

-- a frame record from its length and its instructions, which are still values; none where these are none
abbrev pub frame_with : ℕ → Items → Option FrameDescription
frame_with length values = all_items (pair_of u32_of frames.instruction_of) values >>= λ instructions. Some (record { length = length; instructions = instructions })

-- the names of a map: of the function that sets the memory, and of the one that resolves an address in it
abbrev pub names_view : Names → List ℕ × List ℕ
names_view n = (string_bytes n.set, string_bytes n.resolve)

-- the same names, as a compilation has them
abbrev pub linkage_names : Names → LinkageNames
linkage_names n = record { set_memory = string_bytes n.set; resolve_memory = string_bytes n.resolve }

-- a label with its ranges
abbrev pub label_view : ValueLabel × Vec ValueLocRange Global → ℕ × List LabelRange
label_view l = ((l.0).0, map range_view (l.1).items)

-- the offset of a place of a file, if it is told, stands for a place
abbrev pub IsPlace : Option ℕ → Type 0
IsPlace offset = IfSome offset (λ n. n < 2 ^ 32 - 1)

-- a function with some entries, labels and a frame, from its other fields
abbrev pub function_told : List (ℕ × Option ℕ) → LabelledRanges → Option FrameDescription → FunctionFields → value.MapFunction
function_told entries labels frame f = record {
  address_map = record {
    symbol = option_map (λ s. s.0) f.symbol;
    start = f.start;
    end = f.end;
    body_offset = f.body_offset;
    body_len = f.body_len;
    entries = entries;
  };
  labels = labels;
  frame = frame;
}

-- a function with some entries from its other fields, whose labels and frame are still values; none where these are no labels or no frame
abbrev pub function_with : List (ℕ × Option ℕ) → FunctionFields → Option value.MapFunction
function_with entries f =
    value_or finite.empty value.labels_of (option_map (λ v. view v.now) f.labels)
    >>= λ labels. value_or None (nullable frames.frame_of) (option_map (λ v. view v.now) f.frame)
    >>= λ frame. Some (function_told entries labels frame f)

-- a function that has a symbol or none
abbrev pub function_view : Option SymbolId × CompiledFunctionMetadata → value.MapFunction
function_view f = record { address_map = address_map_view f; labels = (f.1).value_labels_ranges; frame = description_of_metadata f.1 }

-- the path of a file, if it is told
abbrev pub path_view : Option (String Global) → Option (List ℕ)
path_view path = option_map string_bytes path

abbrev pub module_view : MapModule → value.MapModule
module_view m = record { functions = map function_view m.functions.items; memory = memory_view m.memory; path = path_view m.path }

-- what a function's record tells beside its address map: the sources of its begin and end, and whether it has an unwind record of another
-- kind than a frame of DWARF
abbrev pub told_beside : Option SymbolId × CompiledFunctionMetadata → Option ℕ × Option ℕ × Bool
told_beside f = ((f.1).start_srcloc, (f.1).end_srcloc, is_some (f.1).unwind_info)

-- what it is to tell: the sources that the address map tells, and no such record
abbrev pub due_beside : Option SymbolId × CompiledFunctionMetadata → Option ℕ × Option ℕ × Bool
due_beside f = ((f.1).address_map.start_srcloc, (f.1).address_map.end_srcloc, false)

-- the records of some functions tell what they are to
abbrev pub AreConsistent : List (Option SymbolId × CompiledFunctionMetadata) → Type 0
AreConsistent functions = map told_beside functions ≡ map due_beside functions

-- the same of the functions of some modules
abbrev pub ModulesAreConsistent : List MapModule → Type 0
ModulesAreConsistent modules = map (λ m. map told_beside m.functions.items) modules ≡ map (λ m. map due_beside m.functions.items) modules

abbrev pub map_file_view : MapFile → value.MapFile
map_file_view m = record {
  target = target_view m.target;
  set_memory = string_bytes m.names.set;
  resolve_memory = string_bytes m.names.resolve;
  modules = map module_view m.modules.items;
  next_id = m.next_id;
}
