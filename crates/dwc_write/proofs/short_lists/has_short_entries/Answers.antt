use Rattle.std.proofs.Common.{◌∙◌, ap}
use Rattle.dwc_unit.specs.GivenUnits.{ordered}
use Rattle.dwc_write.specs.ShortLists.{is_short_unit}
use Rattle.dwc_write.proofs.ShortLaws.{order-short}
use Rattle.dwc_write.proofs.short_lists.has_short_entries.Goals as goal

pub returns : goal.returns
returns c = c.are_short_entries.ensures ∙ order-short _ c.unit.invariant ∙ ap (λ u. is_short_unit (ordered u)) c.unit.view_is
