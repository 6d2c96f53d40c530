use Rattle.std.proofs.Common.{length}
use Rattle.dwc_image.proofs.OpenedLaws.{ImagesOpen}
use Rattle.dwc_image.proofs.open_lines.add_open_images.Given as goal

-- the images so far, and those of the steps that are left, are all
abbrev pub invariant-loop-taken : goal.invariant-loop-taken
invariant-loop-taken l = ImagesOpen l.transform l.fn.table l.table l.fn.program l.program l.start

abbrev pub decreases-loop-taken : goal.decreases-loop-taken
decreases-loop-taken l = length l.table.table.steps
