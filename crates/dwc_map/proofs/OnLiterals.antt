-- The definitions that stay shut, to be computed on literals.
use Rattle.std.proofs.Common.{ℕ}
use Rattle.std.specs.Str.{is_utf8, chars}
use Rattle.serde_json.proofs.OnLiterals.{serde_json_on_literals}
use Rattle.dwc_map.specs.MapFile.{register_numbers_of, target_of, label_range_of, labels_of, map_function_of, memory_of, map_module_of, map_in, map_in_bytes, map_of_bytes}
use Rattle.dwc_map.specs.MapFrames.{frame_of, cie_of}
use lib.Utf8.{encode}

unfoldable pub map_on_literals : ℕ
unfolding is_utf8 chars encode serde_json_on_literals frame_of cie_of register_numbers_of target_of label_range_of labels_of map_function_of memory_of map_module_of map_in map_in_bytes map_of_bytes
map_on_literals = 0
