-- The input that a compilation is: its modules, whose functions are numbered over all of them, and the first bad address map.
use Rattle.std.specs.Prelude.{ℕ, suc, ◌+◌, List, [], ◌∷◌, ◌++◌, map, length, Option, None, option_map}
use Rattle.std.specs.List.{flat_map}
use Rattle.std.specs.Option.{option_or}
use Rattle.dwc_base.specs.declared.records.Encoding.{Encoding}
use Rattle.dwc_base.specs.declared.records.Endian.{Endian}
use Rattle.dwc_base.specs.declared.records.MapFault.{MapFault}
use Rattle.dwc_base.specs.declared.records.OutputFor.{OutputFor}
use Rattle.dwc_base.specs.declared.translation.ModuleTranslation.{ModuleTranslation}
use Rattle.dwc_base.specs.Translations.{translation_sections}
use Rattle.dwc_base.specs.TranslationNames.{told_file}
use Rattle.dwc_native.specs.Functions.{Function, functions_of}
use Rattle.dwc_rules.specs.Carried.{Module, Compilation}
use Rattle.dwc_native.specs.CallFrames.{CommonEntry}
use Rattle.dwc_native.specs.Compiled.{LinkageNames, ToldModule}
use Rattle.dwc_carried.specs.Forests.{first_refusal, function_refusals, module_refusals}
use Rattle.dwc_base.specs.Listing.{first_of}
use Rattle.dwc_carried.specs.UnitPaths.{next_id_behind}
use Rattle.dwc_compiled.specs.AddressMaps.{address_map_view}
use Rattle.dwc_isa.specs.Registers.{Registers}
use Rattle.dwc_isa.specs.declared.memory_offset.ModuleMemoryOffset.{ModuleMemoryOffset}
use Rattle.dwc_addr.specs.Numbers.{Compiled}
use Rattle.dwc_addr.specs.Compilations.{CompilationValue}
use Rattle.dwc_addr.specs.Transforms.{first_bad_map}
use Rattle.dwc_source.specs.CompiledModules.{told_module}
use Rattle.dwc_carry.specs.Refusals.{InputRefusal, bad_address_map, in_reading}

-- what is told, for some output, of the modules from a place on beside their sections and address maps, whose functions are numbered over
-- all of them from a number on: where their functions' values lie, and where their memories are found, for a target that numbers registers,
-- and names
abbrev pub told_from : OutputFor → Registers → LinkageNames → ℕ → ℕ → List (List Compiled) → List ModuleMemoryOffset → List ToldModule
told_from output registers names place number [] offsets = []
told_from output registers names place number (fs ∷ fss) [] = []
told_from output registers names place number (fs ∷ fss) (offset ∷ offsets) = told_module output place number fs offset registers names ∷ told_from output registers names (suc place) (number + length fs) fss offsets

-- a module of a translation and of the functions compiled from it, of which the first has a number, with what is told of it, that is
-- carried to an output of a version
abbrev pub module_view : OutputFor → ℕ → ℕ → ModuleTranslation → List Compiled → ToldModule → Module
module_view output version number t fs told = record { sections = translation_sections t; functions = functions_of output t.code_section_offset number (map address_map_view fs); told = told; file = told_file t; compressed = t.compressed; version = version }

-- modules in order, carried to an output of a version, whose functions are numbered over all of them from a number on
abbrev pub modules_from : OutputFor → ℕ → ℕ → List ModuleTranslation → List (List Compiled) → List ToldModule → List Module
modules_from output version number [] fss told = []
modules_from output version number (t ∷ ts) [] told = []
modules_from output version number (t ∷ ts) (fs ∷ fss) [] = []
modules_from output version number (t ∷ ts) (fs ∷ fss) (m ∷ told) = module_view output version number t fs m ∷ modules_from output version (number + length fs) ts fss told

-- the functions of modules, for some output, which are numbered over all of them from a number on
abbrev pub functions_from : OutputFor → ℕ → List ModuleTranslation → List (List Compiled) → List (List Function)
functions_from output number [] fss = []
functions_from output number (t ∷ ts) [] = []
functions_from output number (t ∷ ts) (fs ∷ fss) = functions_of output t.code_section_offset number (map address_map_view fs) ∷ functions_from output (number + length fs) ts fss

-- the names of functions of the run time, of a compilation
abbrev pub names_of : CompilationValue → LinkageNames
names_of c = record { set_memory = c.set_memory; resolve_memory = c.resolve_memory }

-- the modules of a compilation
abbrev pub modules_of : Registers → CompilationValue → List Module
modules_of registers c = modules_from c.tunables.output_for c.tunables.dwarf_version 0 c.translations c.functions (told_from c.tunables.output_for registers (names_of c) 0 0 c.functions c.memory_offsets)

-- A compilation behind the path of its simulated unit: the number of the next generated name has risen where one was made.
abbrev pub counted_behind : Registers → CompilationValue → CompilationValue
counted_behind registers c = record c { next_id = next_id_behind c.next_id (modules_of registers c) }

-- the input of a compilation for a target of a byte order, an address size, numbers of registers, and what the frames of all functions
-- share, if it has frames
abbrev pub input_of : Endian → ℕ → Registers → Option CommonEntry → CompilationValue → Compilation
input_of order pointer_bytes registers entry c = record { order = order; pointer_bytes = pointer_bytes; modules = modules_of registers c; next_id = c.next_id; common_entry = entry; version = c.tunables.dwarf_version }

-- how the units of the output of an input spell their numbers
abbrev pub encoding_of : Compilation → Encoding
encoding_of c = record { version = c.version; address_size = c.pointer_bytes }

-- the first bad map of modules from a place on: the place of its module, that of its function, and the first rule it breaks
abbrev pub bad_map_from : ℕ → List ModuleTranslation → List (List Compiled) → Option (ℕ × (ℕ × MapFault))
bad_map_from place [] fss = None
bad_map_from place (t ∷ ts) [] = None
bad_map_from place (t ∷ ts) (fs ∷ fss) = option_or (option_map (λ bad. (place, bad)) (first_bad_map t.code_section_offset 0 (map address_map_view fs))) (bad_map_from (suc place) ts fss)

abbrev pub bad_map : CompilationValue → Option (ℕ × (ℕ × MapFault))
bad_map c = bad_map_from 0 c.translations c.functions

-- the refusal of a compilation's address maps: that of the first bad one
abbrev pub maps_refusal : CompilationValue → Option InputRefusal
maps_refusal c = option_map (λ bad. bad_address_map bad.0 bad.1.0 bad.1.1) (bad_map c)

-- What is refused of a compilation before the path of its simulated unit is made: its address maps, functions that are too long, or
-- something of a module.
abbrev pub refused_before_path : Registers → CompilationValue → Option InputRefusal
refused_before_path registers c =
    option_or (maps_refusal c) (option_map in_reading (first_of (flat_map (λ m. function_refusals m.functions) (modules_of registers c) ++ flat_map module_refusals (modules_of registers c))))

-- The refusal of a compilation for a target: that of its address maps, or else the first in the order of reading.
abbrev pub refusal_of : Endian → ℕ → Registers → Option CommonEntry → CompilationValue → Option InputRefusal
refusal_of order pointer_bytes registers entry c = option_or (maps_refusal c) (option_map in_reading (first_refusal (input_of order pointer_bytes registers entry c)))
