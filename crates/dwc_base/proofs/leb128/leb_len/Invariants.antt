use Rattle.std.proofs.Common.{ℕ, ◌<◌, ◌≤◌, get_or}
use Rattle.dwc_base.proofs.leb128.leb_len.Given as goal

-- each byte so far has its top bit
abbrev pub invariant-loop-i : goal.invariant-loop-i
invariant-loop-i l = (k : ℕ) → k < l.i → 128 ≤ get_or l.bytes k 0
