use Rattle.std.proofs.Common.{subst, map}
use Rattle.dwc_isa.specs.FlatRanges.{IsFlatForm}
use Rattle.dwc_isa.specs.ValueLabels.{range_view}
use Rattle.dwc_isa.proofs.FlatLaws.{none-reversed}
use Rattle.dwc_isa.proofs.told_ranges.ToldRanges.flat.Goals as goal

pub returns-in-Given-clause-good : goal.returns-in-Given-clause-good
returns-in-Given-clause-good c =
    rw (← c.self.view_is) (none-reversed (map range_view c.self.inside.ranges.items) (subst (IsFlatForm (map range_view c.self.inside.ranges.items)) c.in-Given.is c.self.invariant.0).nonempty)
