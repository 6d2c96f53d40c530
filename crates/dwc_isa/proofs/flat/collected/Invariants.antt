use Rattle.std.proofs.Common.{◌<◌, map, take}
use Rattle.dwc_isa.specs.ValueLabels.{range_view}
use Rattle.dwc_isa.proofs.OverlayLaws.{IsCollected}
use Rattle.dwc_isa.proofs.flat.collected.Given as goal

-- what is collected of the ranges so far; there is an end only behind one of them
abbrev pub invariant-loop-range : goal.invariant-loop-range
invariant-loop-range l = record {
  collected : IsCollected l.end (map range_view (take l.range-index l.ranges)) (map range_view l.out.items);
  some : 0 < l.end → 0 < l.range-index;
}
