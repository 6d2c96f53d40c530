use Rattle.std.proofs.Common.{◌≡◌, ◌-◌, ◌<◌, ◌++◌, map, drop, length, get_or}
use Rattle.dwc_addr.specs.Runs.{recorded_view}
use Rattle.dwc_image.specs.ImageRows.{image_rows}
use Rattle.dwc_image.specs.ImageSequences.{begun_rows, HasGrown}
use Rattle.dwc_image.proofs.RunLaws.{RunSoFar, no_row}
use Rattle.dwc_image.proofs.image.add_run.Given as goal

-- the rows so far, and those of the sources that are left, are all
abbrev pub invariant-loop-at : goal.invariant-loop-at
invariant-loop-at l =
    RunSoFar l.rows l.start l.sources l.run.start l.run.end l.at (get_or l.rows l.next no_row).offset l.found
    × HasGrown l.function l.found l.fn.program l.program
    × (begun_rows l.program.begun ++ image_rows l.rows l.start l.found (map recorded_view (drop l.at l.sources)) ≡ begun_rows l.fn.program.begun ++ image_rows l.rows l.start l.fn.found (map recorded_view (drop l.run.start l.sources)))
    × (l.next < length l.rows)

abbrev pub decreases-loop-at : goal.decreases-loop-at
decreases-loop-at l = l.run.end - l.at
