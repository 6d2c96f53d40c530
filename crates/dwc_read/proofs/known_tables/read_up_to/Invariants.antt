use Rattle.std.proofs.Common.{◌-◌, length}
use Rattle.std.specs.List.{All}
use Rattle.dwc_read.specs.KnownTables.{IsKnown}
use Rattle.dwc_read.proofs.known_tables.read_up_to.Given as goal

abbrev pub invariant-loop-passed : goal.invariant-loop-passed
invariant-loop-passed l = All (IsKnown l.sections) l.chains.items

abbrev pub decreases-loop-passed : goal.decreases-loop-passed
decreases-loop-passed l = length l.named - l.passed
