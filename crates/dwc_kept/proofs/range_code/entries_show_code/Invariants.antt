use Rattle.std.proofs.Common.{length}
use Rattle.dwc_dwarf.specs.Lists.{list_source}
use Rattle.dwc_kept.specs.RangeCode.{list_place}
use Rattle.dwc_kept.proofs.RangeCodeLaws.{SeenSoFar}
use Rattle.dwc_kept.proofs.range_code.entries_show_code.Given as goal

-- what was seen, with what is left, makes what all entries show
abbrev pub invariant-loop-entry : goal.invariant-loop-entry
invariant-loop-entry l = SeenSoFar (list_source l.unit.sections l.unit.header) (list_place l.section l.offset) l.transform l.fn.entries.left l.fn.base l.entries.left l.seen

abbrev pub decreases-loop-entry : goal.decreases-loop-entry
decreases-loop-entry l = length l.entries.left.items
