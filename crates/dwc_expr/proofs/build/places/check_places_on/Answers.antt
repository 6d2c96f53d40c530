use Rattle.std.proofs.Common.{◌∙◌, sym}
use Rattle.std.specs.Prelude.{IsSome}
use Rattle.std.proofs.lemmas.Result.{err_from_is_err_and}
use Rattle.dwc_isa.specs.Registers.{Registers}
use Rattle.dwc_isa.specs.declared.value_label.ValueLabel.{ValueLabel}
use Rattle.dwc_expr.specs.LabelRanges.{location_in}
use Rattle.dwc_expr.proofs.PairLaws.{all-unmapped}
use Rattle.dwc_expr.proofs.PlaceRefusals.{split-label}
use Rattle.dwc_expr.proofs.RefusalLaws.{first-behind, told-here}
use Rattle.dwc_expr.proofs.build.places.check_places_on.Goals as goal

pub place_on-requires : goal.place_on-requires
place_on-requires g c = all-unmapped (λ (l : ValueLabel). l.0) (λ label. IsSome (location_in c.args.range.now label)) c.args.labels.now c.requires c.loop-label.label-index _ c.loop-label-test.true

pub returns-in_err-check_place : goal.returns-in_err-check_place
returns-in_err-check_place g c =
    let registers : Registers = (goal.TargetIsa-dyn g c.args.isa.now).dwarf_registers c.args.isa.now.1 in
    let p = err_from_is_err_and c.from_residual.result c.from_residual.ensures.1 in
    rw (p.1, p.2, c.if-lacks_memory.false) (told-here _ _ _ (split-label c.args.range.now registers c.args.labels.now c.loop-label.label-index _ _ c.loop-label-test.true (sym c.place_on.ensures) ∙ c.loop-label.invariant) _ c.in_err-check_place.ensures)

pub loop-label-preserved : goal.loop-label-preserved
loop-label-preserved g c =
    let registers : Registers = (goal.TargetIsa-dyn g c.args.isa.now).dwarf_registers c.args.isa.now.1 in
    first-behind _ _ _ (split-label c.args.range.now registers c.args.labels.now c.loop-label.label-index _ _ c.loop-label-test.true (sym c.place_on.ensures) ∙ c.loop-label.invariant) c.in_ok-check_place.ensures
