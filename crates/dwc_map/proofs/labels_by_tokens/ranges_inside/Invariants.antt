use Rattle.std.proofs.Common.{map, length}
use Rattle.dwc_isa.specs.ValueLabels.{range_view}
use Rattle.dwc_map.specs.MapFile.{label_range_of}
use Rattle.dwc_map.proofs.TokenLists.{ItemsAlong}
use Rattle.dwc_map.proofs.labels_by_tokens.ranges_inside.Given as goal

-- the items so far, and those to come, are those of the list
abbrev pub invariant-items : goal.invariant-items
invariant-items l = ItemsAlong label_range_of l.depth l.fn.reader l.reader (map range_view l.ranges.items)

abbrev pub decreases-items : goal.decreases-items
decreases-items l = length l.reader
