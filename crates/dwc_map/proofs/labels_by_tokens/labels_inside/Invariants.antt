use Rattle.std.proofs.Common.{◌≡◌, ℕ, List, length, Some}
use Rattle.dwc_native.specs.Compiled.{LabelRange}
use Rattle.dwc_map.specs.MapFile.{label_range_of}
use Rattle.dwc_map.specs.MapValues.{list_of, pair_of, table_by, u32_of}
use Rattle.dwc_map.proofs.TokenLists.{ItemsAlong}
use Rattle.dwc_map.proofs.labels_by_tokens.labels_inside.Given as goal

-- the items so far, and those to come, are those of the list, and the labels are the table of those so far
abbrev pub invariant-items : goal.invariant-items
invariant-items l = (rows : List (ℕ × List LabelRange)) × ItemsAlong (pair_of u32_of (list_of label_range_of)) l.depth l.fn.reader l.reader rows × (table_by rows ≡ Some l.labels)

abbrev pub decreases-items : goal.decreases-items
decreases-items l = length l.reader
