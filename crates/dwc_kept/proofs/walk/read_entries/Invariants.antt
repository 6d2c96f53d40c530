use Rattle.std.proofs.Common.{length}
use Rattle.dwc_rules.specs.EntryRules.{is_required, named_faults}
use Rattle.dwc_kept.specs.ReadingSeen.{reading_view}
use Rattle.dwc_kept.proofs.ReadLaws.{UnitsSoFar}
use Rattle.dwc_kept.proofs.walk.read_entries.Given as goal

-- the units that are left lead from what is read to all that is to be read
abbrev pub invariant-loop-units : goal.invariant-loop-units
invariant-loop-units l = UnitsSoFar (is_required l.transform l.fn.headers.sections) (named_faults l.fn.headers.sections) l.fn.headers.sections l.fn.headers.headers l.headers (reading_view l.reading) l.units.items

abbrev pub decreases-loop-units : goal.decreases-loop-units
decreases-loop-units l = length l.headers.headers.items
