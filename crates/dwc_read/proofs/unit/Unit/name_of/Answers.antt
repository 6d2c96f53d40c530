use Rattle.dwc_read.specs.ValuesSeen.{value_view}
use Rattle.dwc_read.specs.Bases.{HasBases}
use Rattle.dwc_read.proofs.BasesLaws.{text_in_unit-from}
use Rattle.dwc_read.proofs.unit.Unit.name_of.Goals as goal

pub returns-in-Ok-clause-text : goal.returns-in-Ok-clause-text
unfolding HasBases
returns-in-Ok-clause-text c =
    rw (← c.self.view_is) (text_in_unit-from _ _ _ (value_view c.args.value.now) _ c.self.invariant.2.texts c.in-Ok.ensures)

pub returns-in-Err-clause-text : goal.returns-in-Err-clause-text
unfolding HasBases
returns-in-Err-clause-text c =
    rw (c.unreadable.ensures, ← c.self.view_is) (text_in_unit-from _ _ _ (value_view c.args.value.now) _ c.self.invariant.2.texts c.in-Err.ensures)
