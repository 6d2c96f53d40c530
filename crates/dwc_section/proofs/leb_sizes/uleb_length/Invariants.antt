use Rattle.std.proofs.Common.{◌≡◌, ◌+◌, ◌≤◌, length}
use Rattle.dwc_base.specs.NumberBytes.{uleb_bytes}
use Rattle.dwc_section.proofs.leb_sizes.uleb_length.Given as goal

-- the bytes that were counted, one of them the last, and those of the number that is left; the count is below ten while
-- more is left than what one byte holds
abbrev pub invariant-loop-rest : goal.invariant-loop-rest
invariant-loop-rest l = record {
  counted : l.count + length (uleb_bytes l.rest) ≡ 1 + length (uleb_bytes l.value);
  most : l.count + length (uleb_bytes l.rest) ≤ 11;
}

abbrev pub decreases-loop-rest : goal.decreases-loop-rest
decreases-loop-rest l = l.rest
