use Rattle.std.proofs.Common.{◌≡◌, ◌≤◌, length, drop}
use Rattle.dwc_base.specs.Lebs.{low_seven_bits_value}
use Rattle.dwc_base.proofs.leb128.leb_value.Given as goal

-- the value is that of the bytes from k on
abbrev pub invariant-loop-k : goal.invariant-loop-k
invariant-loop-k l = (l.value ≡ low_seven_bits_value (drop l.k l.bytes)) × (l.k ≤ length l.bytes)

abbrev pub decreases-loop-k : goal.decreases-loop-k
decreases-loop-k l = l.k
