-- The definitions on expressions that stay shut, in sets: a proof that computes on literals names one on its `unfolding` line.
use Rattle.std.proofs.Common.{ℕ}
use Rattle.dwc_worked.proofs.OnLiterals.{units_on_literals}
use Rattle.dwc_base.specs.NumberBytes.{uleb_bytes_within, uleb_bytes, sleb_bytes_from_0, sleb_bytes_below_0, sleb_bytes}
use Rattle.dwc_dwarf.specs.Operations.{operand_at, index_at, wasm_location_at, operands_at, operation_at, next_operation, operations_from}
use Rattle.dwc_native.specs.Parts.{compiled}
use Rattle.dwc_native.specs.Runs.{runs, native_ranges, native_in_function, native}
use Rattle.dwc_native.specs.LabelRanges.{ranges_among}
use Rattle.dwc_native.specs.Built.{built_bytes}
use Rattle.dwc_native.specs.BuiltExpressions.{built_over}
use Rattle.dwc_rules.specs.LocationAttributes.{compiled_at, built_at, value_of_expression, built_for, built_for_each, value_of_locations, read_expression, read_locations, base_of_expression}

unfoldable pub operations_on_literals : ℕ
unfolding units_on_literals operand_at index_at wasm_location_at operands_at operation_at next_operation operations_from
operations_on_literals = 0

unfoldable pub parts_on_literals : ℕ
unfolding operations_on_literals uleb_bytes_within uleb_bytes sleb_bytes_from_0 sleb_bytes_below_0 sleb_bytes compiled
parts_on_literals = 0

unfoldable pub built_on_literals : ℕ
unfolding parts_on_literals runs native_ranges native_in_function native ranges_among built_bytes built_over
built_on_literals = 0

unfoldable pub attributes_on_literals : ℕ
unfolding built_on_literals compiled_at built_at value_of_expression built_for built_for_each value_of_locations read_expression read_locations base_of_expression
attributes_on_literals = 0
