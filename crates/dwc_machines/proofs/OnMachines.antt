-- The definitions on machines that stay shut, in one set: a proof that computes on literals names it on its `unfolding` line.
use Rattle.std.proofs.Common.{ℕ}
use Rattle.dwc_base.specs.Reading.{number_at, bytes_at, uleb_at, sleb_at}
use Rattle.dwc_base.specs.Listing.{walk, walk_up_to}
use Rattle.dwc_dwarf.specs.Values.{sized_number_at}
use Rattle.dwc_base.specs.NumberBytes.{uleb_bytes_within, uleb_bytes, sleb_bytes_from_0, sleb_bytes_below_0, sleb_bytes}
use Rattle.dwc_dwarf.specs.Operations.{operand_at, index_at, wasm_location_at, operands_at, operation_at, next_operation, operations_from}
use Rattle.dwc_native.specs.Parts.{compiled}
use Rattle.dwc_native.specs.Built.{built_bytes}
use Rattle.dwc_machines.specs.ByteMachine.{native_operation_at, next_native_operation, native_operations_from, decoded, byte_step}
use Rattle.dwc_machines.specs.PartMachine.{part_step}
use Rattle.dwc_machines.specs.WasmMachine.{wasm_step}

unfoldable pub machines_on_literals : ℕ
unfolding number_at bytes_at uleb_at sleb_at walk walk_up_to sized_number_at uleb_bytes_within uleb_bytes sleb_bytes_from_0 sleb_bytes_below_0 sleb_bytes operand_at index_at wasm_location_at operands_at operation_at next_operation operations_from compiled built_bytes native_operation_at next_native_operation native_operations_from decoded byte_step part_step wasm_step
machines_on_literals = 0
