use Rattle.std.proofs.Common.{◌∷◌, map, ap, ◌∙◌}
use Rattle.dwc_tabs.specs.Steps.{step_view}
use Rattle.dwc_image.specs.CarriedLines.{carried_row, carried_step, carried_steps}
use Rattle.dwc_image.proofs.LinesLaws.{images-row, images-start, images-end}
use Rattle.dwc_image.proofs.lines.add_images.Goals as goal

pub loop-step-preserved : goal.loop-step-preserved
loop-step-preserved c =
    let next = c.in-Some.ensures ∙ ap (λ s. step_view s ∷ c.next.new.self) c.in-Row.is in
    rw (c.in_ok-push-in-Row.ensures.items, c.carried_row.ensures) (images-row c.args.transform.now (carried_steps c.args.table.now) c.args.program.now c.loop-step.program c.loop-step.start c.loop-step.rows.items (carried_row c.args.table.now.header.version c.in-Row.row) (map (carried_step c.args.table.now.header.version) c.next.new.self) (rw next at c.loop-step.invariant))

pub loop-step-preserved-in-Start : goal.loop-step-preserved-in-Start
loop-step-preserved-in-Start c =
    let next = c.in-Some.ensures ∙ ap (λ s. step_view s ∷ c.next.new.self) c.in-Start.is in
    rw (c.in_ok-add_image-in-Start.ensures.added, c.deref.ensures.value, c.clear.ensures.items)
    (images-start c.args.transform.now (carried_steps c.args.table.now) c.args.program.now c.loop-step.program c.loop-step.start c.loop-step.rows.items c.in-Start.address (map (carried_step c.args.table.now.header.version) c.next.new.self) (rw next at c.loop-step.invariant))

pub loop-step-preserved-in-End : goal.loop-step-preserved-in-End
loop-step-preserved-in-End c =
    let next = c.in-Some.ensures ∙ ap (λ s. step_view s ∷ c.next.new.self) c.in-End.is in
    rw (c.in_ok-add_image-in-End.ensures.added, c.deref-in-End.ensures.value, c.clear-in-End.ensures.items)
    (images-end c.args.transform.now (carried_steps c.args.table.now) c.args.program.now c.loop-step.program c.loop-step.start c.loop-step.rows.items c.in-End.field-0 (map (carried_step c.args.table.now.header.version) c.next.new.self) (rw next at c.loop-step.invariant))
