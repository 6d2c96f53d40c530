use Rattle.std.proofs.Common.{◌≡◌, ◌+◌, ◌++◌, ◌≤◌, length}
use Rattle.std.specs.Prelude.{vec_capacity, vec_len}
use Rattle.dwc_base.specs.NumberBytes.{uleb_bytes}
use Rattle.dwc_section.proofs.digits.put_digits.Given as goal

-- what stands in the buffer, the number that is left, and the room for it
abbrev pub invariant-loop-rest : goal.invariant-loop-rest
invariant-loop-rest l = record {
  put : l.out.items ++ uleb_bytes l.rest ≡ l.initial.out.items ++ uleb_bytes l.initial.rest;
  most : vec_len l.out + length (uleb_bytes l.rest) ≤ vec_len l.initial.out + 10;
  room : vec_capacity l.out ≡ vec_capacity l.initial.out;
}

abbrev pub decreases-loop-rest : goal.decreases-loop-rest
decreases-loop-rest l = l.rest
