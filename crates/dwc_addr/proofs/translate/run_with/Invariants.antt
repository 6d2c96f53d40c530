use Rattle.std.proofs.Common.{◌≡◌, drop}
use Rattle.std.specs.List.{find}
use Rattle.dwc_native.specs.Runs.{runs, has_offset}
use Rattle.dwc_addr.specs.Transforms.{function_view}
use Rattle.dwc_addr.proofs.translate.run_with.Given as goal

-- the runs that are left have the first of all that has the offset
abbrev pub invariant-loop-number : goal.invariant-loop-number
invariant-loop-number l = find (has_offset l.addr) (drop l.number (runs (function_view l.function))) ≡ find (has_offset l.addr) (runs (function_view l.function))
