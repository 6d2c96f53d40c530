use Rattle.std.proofs.Common.{map}
use Rattle.dwc_unit.specs.GivenUnits.{ordered}
use Rattle.dwc_unit.specs.LineNames.{names_of_unit}
use Rattle.dwc_write.proofs.UnitNameLaws.{AreNaming}
use Rattle.dwc_write.proofs.unit_names.use_units.Given as goal

-- the names of the first units are used
abbrev pub invariant-loop-i : goal.invariant-loop-i
invariant-loop-i l = AreNaming (names_of_unit l.texts) (map ordered l.units) l.i l.initial.names l.names
