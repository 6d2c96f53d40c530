use Rattle.std.proofs.Common.{length}
use Rattle.dwc_dwarf.specs.Lists.{list_source}
use Rattle.dwc_rules.specs.EntryRules.{is_required, named_faults}
use Rattle.dwc_kept.specs.ReadingSeen.{reading_view}
use Rattle.dwc_kept.specs.ShownLists.{KnowsLists}
use Rattle.dwc_kept.proofs.ReadLaws.{EntriesSoFar}
use Rattle.dwc_kept.proofs.walk.add_entries.Given as goal

-- the entries that are left lead from what is read to all that is to be read, and what is noted of lists is so
abbrev pub invariant-loop-entries : goal.invariant-loop-entries
invariant-loop-entries l = EntriesSoFar (is_required l.transform l.unit.sections l.unit.header) (named_faults l.unit.sections l.unit.header) l.unit.header l.initial.entries.left (reading_view l.initial.reading) l.entries.left (reading_view l.reading) l.root
    × KnowsLists (list_source l.unit.sections l.unit.header) l.transform l.lists

abbrev pub decreases-loop-entries : goal.decreases-loop-entries
decreases-loop-entries l = length l.entries.left.items
