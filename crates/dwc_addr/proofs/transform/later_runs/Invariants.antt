use Rattle.std.proofs.Common.{◌≡◌, ◌++◌, map, drop}
use Rattle.dwc_addr.specs.Runs.{recorded_view, run_starts}
use Rattle.dwc_addr.proofs.transform.later_runs.Given as goal

-- the places of the sources so far, and of those that are left, are all
abbrev pub invariant-loop-place : goal.invariant-loop-place
invariant-loop-place l = l.places.items ++ run_starts l.place l.last (map recorded_view (drop l.place l.sources)) ≡ run_starts 0 0 (map recorded_view l.sources)
