use Rattle.std.proofs.Common.{◌<◌, map, drop}
use Rattle.dwc_addr.specs.Runs.{recorded_view}
use Rattle.dwc_addr.proofs.StretchLaws.{SoFar}
use Rattle.dwc_addr.proofs.shown.stretches.Given as goal

-- the stretches so far, and the last one, which begins below the end
abbrev pub invariant-loop-place : goal.invariant-loop-place
invariant-loop-place l = (l.last.start < l.len) × SoFar l.start (map recorded_view l.sources) l.stretches.items l.last (map recorded_view (drop l.place l.sources))
