use Rattle.std.proofs.Common.{◌≡◌, ℕ, ◌<◌, ◌≤◌, map, true}
use Rattle.std.specs.Prelude.{is_some}
use Rattle.dwc_native.specs.Placed.{last_place}
use Rattle.dwc_isa.specs.ValueLabels.{range_view}
use Rattle.dwc_expr.specs.PlacedParts.{EndBy}
use Rattle.dwc_expr.proofs.ranges.filled.last_in.Given as goal

-- the bytes from the range's begin up to the one that is reached have places, and the pieces so far end there
abbrev pub invariant-loop-place : goal.invariant-loop-place
invariant-loop-place l = record {
  from : l.range.start ≤ l.reached;
  short : l.reached < l.range.end;
  placed : (byte : ℕ) → l.range.start ≤ byte → byte < l.reached → is_some (last_place (map range_view l.pieces) byte) ≡ true;
  passed : EndBy l.reached l.place (map range_view l.pieces);
}
