use Rattle.std.proofs.Common.{◌≡◌, map, drop, false}
use Rattle.dwc_addr.specs.Runs.{recorded_view}
use Rattle.dwc_image.specs.SimulatedSequences.{line_of_recorded, with_rows, CanAppendEach}
use Rattle.dwc_image.proofs.simulated.add_later.Given as goal

-- the rows that are left may be appended, and with them the program is what it is with all
abbrev pub invariant-loop-place : goal.invariant-loop-place
invariant-loop-place l =
    CanAppendEach l.program (map (line_of_recorded l.code_offset false) (map recorded_view (drop l.place l.sources)))
    × (with_rows (map (line_of_recorded l.code_offset false) (map recorded_view (drop l.place l.sources))) l.program ≡ with_rows (map (line_of_recorded l.code_offset false) (map recorded_view l.sources)) l.fn.program)
