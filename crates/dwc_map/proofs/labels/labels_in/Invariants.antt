use Rattle.std.proofs.Common.{◌≡◌, ◌≤◌, drop, length, Some}
use Rattle.serde_json.specs.View.{items_view}
use Rattle.dwc_map.specs.MapFile.{label_range_of}
use Rattle.dwc_map.specs.MapValues.{list_of, table_in}
use Rattle.dwc_map.proofs.labels.labels_in.Given as goal

-- the labels are those of the values from k on
abbrev pub invariant-loop-k : goal.invariant-loop-k
invariant-loop-k l = record {
  inside : l.k ≤ length l.values;
  table : table_in (list_of label_range_of) (items_view (drop l.k l.values)) ≡ Some l.labels;
}

abbrev pub decreases-loop-k : goal.decreases-loop-k
decreases-loop-k l = l.k
