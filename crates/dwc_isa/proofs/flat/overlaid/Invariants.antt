use Rattle.std.proofs.Common.{◌<◌, ◌^◌, map, drop}
use Rattle.dwc_isa.specs.ValueLabels.{range_view}
use Rattle.dwc_isa.proofs.OverlayLaws.{IsOverlaid}
use Rattle.dwc_isa.proofs.flat.overlaid.Given as goal

-- up to a byte all is laid over, and the rest of both is to come
abbrev pub invariant-loop-range : goal.invariant-loop-range
invariant-loop-range l = record {
  overlaid : IsOverlaid l.at (map range_view l.below) (map range_view l.above) (map range_view l.rest) (map range_view (drop l.range-index l.above)) (map range_view l.out.items);
  low : l.at < 2 ^ 32;
}
