use Rattle.dwc_read.specs.ValuesSeen.{value_view}
use Rattle.dwc_read.specs.Bases.{HasBases}
use Rattle.dwc_read.proofs.TextPlaceLaws.{text_place_in_unit-from}
use Rattle.dwc_read.proofs.unit.Unit.text_place.Goals as goal

pub returns-in-Ok-clause-place : goal.returns-in-Ok-clause-place
unfolding HasBases
returns-in-Ok-clause-place c =
    rw (← c.self.view_is) (text_place_in_unit-from _ _ _ (value_view c.args.value.now) _ c.self.invariant.2.texts c.in-Ok.ensures)

pub returns-in-Err-clause-place : goal.returns-in-Err-clause-place
unfolding HasBases
returns-in-Err-clause-place c =
    rw (c.unreadable.ensures, ← c.self.view_is) (text_place_in_unit-from _ _ _ (value_view c.args.value.now) _ c.self.invariant.2.texts c.in-Err.ensures)
