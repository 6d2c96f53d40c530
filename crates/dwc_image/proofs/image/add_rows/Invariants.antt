use Rattle.std.proofs.Common.{◌≡◌, ◌++◌, ◌≤◌, map, drop, length, None}
use Rattle.dwc_addr.specs.Runs.{recorded_view}
use Rattle.dwc_image.specs.ImageRows.{image_rows}
use Rattle.dwc_image.specs.ImageSequences.{begun_rows, HasGrown}
use Rattle.dwc_image.specs.RunRows.{AreRuns}
use Rattle.dwc_image.proofs.image.add_rows.Given as goal

-- the runs that are left; the rows so far, and those of the sources that are left, are all
abbrev pub invariant-loop-place : goal.invariant-loop-place
invariant-loop-place l =
    (l.from ≤ length l.sources)
    × AreRuns (λ s. s.wasm) l.sources l.from (drop l.place-index l.later_runs)
    × HasGrown l.function l.found l.fn.program l.program
    × (begun_rows l.program.begun ++ image_rows l.rows l.start l.found (map recorded_view (drop l.from l.sources)) ≡ image_rows l.rows l.start None (map recorded_view l.sources))
