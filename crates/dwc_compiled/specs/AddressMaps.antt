-- The records of a compiled function, seen as an address map.
use Rattle.std.specs.Prelude.{Option, option_map}
use Rattle.dwc_base.specs.declared.records.SymbolId.{SymbolId}
use Rattle.dwc_native.specs.Functions.{AddressMap}
use Rattle.dwc_compiled.specs.declared.metadata.CompiledFunctionMetadata.{CompiledFunctionMetadata}

-- the address map of a function that has a symbol or none
abbrev pub address_map_view : Option SymbolId × CompiledFunctionMetadata → AddressMap
address_map_view f = record {
  symbol = option_map (λ s. s.0) f.0;
  start = (f.1).address_map.start_srcloc;
  end = (f.1).address_map.end_srcloc;
  body_offset = (f.1).address_map.body_offset;
  body_len = (f.1).address_map.body_len;
  entries = (f.1).address_map.instructions;
}
