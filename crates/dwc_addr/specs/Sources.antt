-- The entries of an address map that have a source, counted from the contents of the code section.
use Rattle.std.specs.Prelude.{ℕ, ◌-◌}
use Rattle.dwc_compiled.specs.declared.instruction_maps.InstructionSource.{InstructionSource}
use Rattle.dwc_addr.specs.declared.address_map.AddressMap.{AddressMap}

abbrev pub counted_from : ℕ → InstructionSource → AddressMap
counted_from code_offset e = record { generated = e.code_offset; wasm = e.source - code_offset }
