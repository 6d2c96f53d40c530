use Rattle.std.proofs.Common.{◌≡◌, ◌+◌, ◌≤◌, length, pos}
use Rattle.dwc_base.specs.NumberBytes.{sleb_bytes}
use Rattle.dwc_section.proofs.leb_sizes.sleb_length_from_0.Given as goal

-- the bytes that were counted, one of them the last, and those of the number that is left
abbrev pub invariant-loop-rest : goal.invariant-loop-rest
invariant-loop-rest l = record {
  counted : l.count + length (sleb_bytes (pos l.rest)) ≡ 1 + length (sleb_bytes (pos l.value));
  most : l.count + length (sleb_bytes (pos l.rest)) ≤ 11;
}

abbrev pub decreases-loop-rest : goal.decreases-loop-rest
decreases-loop-rest l = l.rest
