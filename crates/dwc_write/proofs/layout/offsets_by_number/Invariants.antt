use Rattle.std.proofs.Common.{◌≡◌, ◌++◌, map, drop}
use Rattle.dwc_write.specs.LayoutViews.{offset_known}
use Rattle.dwc_write.proofs.layout.offsets_by_number.Given as goal

abbrev pub invariant-loop-place : goal.invariant-loop-place
invariant-loop-place l = l.offsets.items ++ map (offset_known l.by_place) (drop l.place-index l.places) ≡ map (offset_known l.by_place) l.places
