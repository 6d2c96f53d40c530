use Rattle.std.proofs.Common.{◌≡◌, [], replicate}
use Rattle.std.specs.Prelude.{◌-◌}
use Rattle.dwc_section.specs.Writers.{appended}
use Rattle.dwc_write.proofs.entries.write_ends.Given as goal

-- what is there, with the ends that are left, is the whole
abbrev pub invariant-loop : goal.invariant-loop
invariant-loop l = appended (replicate (l.count - l.counter) 0) [] l.info ≡ appended (replicate l.count 0) [] l.initial.info
