use Rattle.std.proofs.Common.{◌-◌, length}
use Rattle.dwc_source.specs.OutputPlaces.{AreBefore}
use Rattle.dwc_source.proofs.places.found_behind.Given as goal

abbrev pub invariant-loop-place : goal.invariant-loop-place
invariant-loop-place l = AreBefore l.offset l.entries l.place

abbrev pub decreases-loop-place : goal.decreases-loop-place
decreases-loop-place l = length l.entries - l.place
