use Rattle.std.proofs.Common.{map, length}
use Rattle.dwc_map.proofs.TokenLists.{ItemsAlong}
use Rattle.dwc_map.specs.MapFile.{map_function_of}
use Rattle.dwc_map.specs.MapViews.{function_view, AreConsistent}
use Rattle.dwc_map.proofs.by_tokens.functions_inside.Given as goal

-- the items so far, and those to come, are those of the list
abbrev pub invariant-items : goal.invariant-items
invariant-items l = record {
  along : ItemsAlong map_function_of l.depth l.fn.reader l.reader (map function_view l.functions.items);
  records : AreConsistent l.functions.items;
}

abbrev pub decreases-items : goal.decreases-items
decreases-items l = length l.reader
