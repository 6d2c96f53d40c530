use Rattle.std.proofs.Common.{◌≡◌, []}
use Rattle.dwc_base.specs.NumberBytes.{uleb_bytes}
use Rattle.dwc_section.specs.Writers.{appended}
use Rattle.dwc_write.proofs.lists.write_uleb.Given as goal

-- what is there, with the number that is left, is the whole
abbrev pub invariant-loop-rest : goal.invariant-loop-rest
invariant-loop-rest l = appended (uleb_bytes l.rest) [] l.lists ≡ appended (uleb_bytes l.value) [] l.initial.lists

abbrev pub decreases-loop-rest : goal.decreases-loop-rest
decreases-loop-rest l = l.rest
