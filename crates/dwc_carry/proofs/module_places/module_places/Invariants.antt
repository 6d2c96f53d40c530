use Rattle.std.proofs.Common.{◌≡◌, ◌++◌, drop}
use Rattle.dwc_carry.specs.ModulePlaces.{emitted, numbered_lists}
use Rattle.dwc_carry.proofs.module_places.module_places.Given as goal

-- the entries so far and those of the units that are left are all
abbrev pub invariant-loop-i : goal.invariant-loop-i
invariant-loop-i l = l.places ++ numbered_lists l.number (emitted l.read_module.kept (drop l.i l.read_module.units.items)) ≡ numbered_lists l.first (emitted l.read_module.kept l.read_module.units.items)
