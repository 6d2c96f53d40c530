use Rattle.std.proofs.Common.{◌≡◌, ◌++◌, drop}
use Rattle.dwc_source.specs.OutputPlaces.{numbered}
use Rattle.dwc_source.proofs.places.add_offsets.Given as goal

abbrev pub invariant-loop-i : goal.invariant-loop-i
invariant-loop-i l = l.entries.items ++ numbered l.unit l.i (drop l.i l.offsets) ≡ l.fn.entries.items ++ numbered l.unit 0 l.offsets
