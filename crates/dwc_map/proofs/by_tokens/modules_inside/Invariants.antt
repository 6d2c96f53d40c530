use Rattle.std.proofs.Common.{map, length}
use Rattle.dwc_map.proofs.TokenLists.{ItemsAlong}
use Rattle.dwc_map.specs.MapFile.{map_module_of}
use Rattle.dwc_map.specs.MapViews.{module_view, ModulesAreConsistent}
use Rattle.dwc_map.proofs.by_tokens.modules_inside.Given as goal

-- the items so far, and those to come, are those of the list
abbrev pub invariant-items : goal.invariant-items
invariant-items l = record {
  along : ItemsAlong map_module_of l.depth l.fn.reader l.reader (map module_view l.modules.items);
  records : ModulesAreConsistent l.modules.items;
}

abbrev pub decreases-items : goal.decreases-items
decreases-items l = length l.reader
