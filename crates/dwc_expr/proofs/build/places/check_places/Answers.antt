use Rattle.std.proofs.Common.{◌∙◌, subst, sym}
use Rattle.std.proofs.lemmas.Result.{err_from_is_err_and}
use Rattle.dwc_isa.specs.Registers.{Registers}
use Rattle.dwc_expr.specs.LabelRanges.{HasPlaces}
use Rattle.dwc_expr.specs.NeededLabels.{numbers}
use Rattle.dwc_expr.specs.Refusals.{refusals_on}
use Rattle.dwc_expr.proofs.PlaceRefusals.{split-at}
use Rattle.dwc_expr.proofs.RefusalLaws.{told-here}
use Rattle.dwc_expr.proofs.build.places.check_places.Goals as goal

pub check_places_on-requires : goal.check_places_on-requires
check_places_on-requires g c = subst (HasPlaces (numbers c.args.labels.now)) (sym c.range-item.is) (c.requires c.loop-range.range-index c.range-item.result c.loop-range-test.true)

pub returns-in_err-check_places_on : goal.returns-in_err-check_places_on
returns-in_err-check_places_on g c =
    let registers : Registers = (goal.TargetIsa-dyn g c.args.isa.now).dwarf_registers c.args.isa.now.1 in
    let p = err_from_is_err_and c.from_residual.result c.from_residual.ensures.1 in
    rw (p.1, p.2) (told-here _ _ _ (split-at (refusals_on c.args.lacks_memory (numbers c.args.labels.now) registers) c.args.ranges.now c.loop-range.range-index c.range-item.result c.loop-range-test.true c.range-item.is ∙ c.loop-range.invariant) _ c.in_err-check_places_on.ensures)
