use Rattle.std.proofs.Common.{length}
use Rattle.dwc_isa.proofs.flat.+flattened.Given as goal

abbrev pub decreases-flattened : goal.decreases-flattened
decreases-flattened l = length l.ranges.now
