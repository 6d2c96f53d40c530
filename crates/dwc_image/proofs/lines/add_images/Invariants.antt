use Rattle.std.proofs.Common.{length, map}
use Rattle.dwc_image.specs.CarriedLines.{carried_step, carried_steps}
use Rattle.dwc_image.proofs.LinesLaws.{ImagesSoFar}
use Rattle.dwc_image.proofs.lines.add_images.Given as goal

-- the images so far, and those of the steps that are left, are all
abbrev pub invariant-loop-step : goal.invariant-loop-step
invariant-loop-step l = ImagesSoFar l.transform (carried_steps l.table) l.fn.program l.program l.start l.rows.items (map (carried_step l.table.header.version) l.steps)

abbrev pub decreases-loop-step : goal.decreases-loop-step
decreases-loop-step l = length l.steps
