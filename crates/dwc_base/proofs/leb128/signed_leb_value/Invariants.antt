use Rattle.std.proofs.Common.{◌≡◌, ◌<◌, length, drop}
use Rattle.dwc_base.specs.Lebs.{signed_low_value}
use Rattle.dwc_base.proofs.leb128.signed_leb_value.Given as goal

-- the value is that of the bytes from k on
abbrev pub invariant-loop-k : goal.invariant-loop-k
invariant-loop-k l = (l.value ≡ signed_low_value (drop l.k l.bytes)) × (l.k < length l.bytes)

abbrev pub decreases-loop-k : goal.decreases-loop-k
decreases-loop-k l = l.k
