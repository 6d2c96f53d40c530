-- Modules and their compiled functions, as what was read of an input.
use Rattle.std.specs.Prelude.{◌≡◌, ℕ, List, map, Option, option_map}
use Rattle.dwc_base.specs.declared.records.Endian.{Endian}
use Rattle.dwc_base.specs.declared.records.MapFault.{MapFault}
use Rattle.dwc_base.specs.declared.records.OutputFor.{OutputFor}
use Rattle.dwc_base.specs.declared.translation.ModuleTranslation.{ModuleTranslation}
use Rattle.dwc_native.specs.SharedSymbols.{shared_symbol}
use Rattle.dwc_native.specs.Compiled.{LinkageNames}
use Rattle.dwc_native.specs.CallFrames.{CommonEntry}
use Rattle.dwc_isa.specs.Registers.{Registers}
use Rattle.dwc_isa.specs.declared.memory_offset.ModuleMemoryOffset.{ModuleMemoryOffset}
use Rattle.dwc_addr.specs.Numbers.{Compiled, all_symbols, symbol_view}
use Rattle.dwc_carry.specs.Inputs as carry
use Rattle.dwc_cli.specs.Inputs.{Loaded, compilation_of, shared_in, BadMap, bad_map}

-- a bad map, from its places and its rule
abbrev pub bad_view : ℕ × (ℕ × MapFault) → BadMap
bad_view bad = record { module_place = bad.0; function_place = bad.1.0; rule = bad.1.1 }

-- What was read is these translations, functions and memories, for an output of a version of DWARF, a target of a byte order, an address
-- size, numbers of registers and a common information entry, if it has one, with names of the run time's functions, and the number of the
-- next name that is made up.
pub record IsCompiled (output : OutputFor) (version : ℕ) (order : Endian) (pointer_bytes : ℕ) (registers : Registers) (entry : Option CommonEntry) (names : LinkageNames) (ts : List ModuleTranslation) (fss : List (List Compiled)) (offsets : List ModuleMemoryOffset) (next_id : ℕ) (read : Loaded) : Type 0 where
  pub input : compilation_of read ≡ record { order = order; pointer_bytes = pointer_bytes; modules = carry.modules_from output version 0 ts fss (carry.told_from output registers names 0 0 fss offsets); next_id = next_id; common_entry = entry; version = version }
  pub maps : bad_map read ≡ option_map bad_view (carry.bad_map_from 0 ts fss)
  pub symbols : shared_in read ≡ shared_symbol (map symbol_view (all_symbols fss))
