use Rattle.std.proofs.Common.{◌<◌, ◌^◌, ◌-◌}
use Rattle.dwc_addr.specs.Stretches.{AreTables}
use Rattle.dwc_addr.proofs.shown.source_tables.Given as goal

-- the tables so far
abbrev pub invariant-loop-block : goal.invariant-loop-block
invariant-loop-block l = (0 < l.block) × (l.block < 2 ^ 40) × AreTables l.stretches l.tables.items

abbrev pub decreases-loop-block : goal.decreases-loop-block
decreases-loop-block l = 2 ^ 40 - l.block
