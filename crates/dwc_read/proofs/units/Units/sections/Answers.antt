use Rattle.std.proofs.Common.{subst}
use Rattle.dwc_dwarf.specs.UnitOffsets.{StandFrom}
use Rattle.dwc_dwarf.proofs.UnitOffsets.{units-from-stand}
use Rattle.dwc_read.specs.Views.{UnitsView}
use Rattle.dwc_read.proofs.units.Units.sections.Goals as goal

pub returns-clause-stand : goal.returns-clause-stand
returns-clause-stand c = subst (λ (v : UnitsView). StandFrom v.sections 0 v.headers.items) c.self.view_is (units-from-stand c.self.inside.sections c.self.inside.headers)
