use Rattle.std.proofs.Common.{map, drop}
use Rattle.dwc_isa.specs.ValueLabels.{range_view}
use Rattle.dwc_isa.proofs.OverlayLaws.{IsPutting}
use Rattle.dwc_isa.proofs.flat.put_between.Given as goal

-- up to a byte all is put, and the ranges from there on are to come
abbrev pub invariant-loop-i : goal.invariant-loop-i
invariant-loop-i l = IsPutting l.from l.to l.at (map range_view l.ranges) (map range_view (drop l.i l.ranges)) (map range_view l.fn.out.items) (map range_view l.out.items)
