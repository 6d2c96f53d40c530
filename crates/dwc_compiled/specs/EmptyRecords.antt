-- The records of a function of which nothing is known.
use Rattle.std.specs.Prelude.{◌≡◌, [], None}
use Rattle.std.specs.FinMap as finite
use Rattle.dwc_compiled.specs.declared.address_map.FunctionAddressMap.{FunctionAddressMap}
use Rattle.dwc_compiled.specs.declared.metadata.CompiledFunctionMetadata.{CompiledFunctionMetadata}

-- a map without entries and places, of a body of no bytes at 0
pub record IsEmptyMap (m : FunctionAddressMap) : Type 0 where
  pub entries : m.instructions ≡ []
  pub start : m.start_srcloc ≡ None
  pub end : m.end_srcloc ≡ None
  pub body_offset : m.body_offset ≡ 0
  pub body_len : m.body_len ≡ 0

-- an empty map, no labels, nothing of how it unwinds, and no places
pub record IsEmptyMetadata (m : CompiledFunctionMetadata) : Type 0 where
  pub address_map : IsEmptyMap m.address_map
  pub labels : m.value_labels_ranges ≡ finite.empty
  pub unwind_info : m.unwind_info ≡ None
  pub cfa_unwind_info : m.cfa_unwind_info ≡ None
  pub start : m.start_srcloc ≡ None
  pub end : m.end_srcloc ≡ None
