use Rattle.std.proofs.Common.{◌≡◌, drop}
use Rattle.std.specs.Prelude.{filter_map}
use Rattle.dwc_kept.specs.GraphEntries.{mark_all, number_at}
use Rattle.dwc_kept.proofs.marks.mark_targets.Given as goal

-- the targets that are left lead from the marks so far to those of all
abbrev pub invariant-loop-target : goal.invariant-loop-target
invariant-loop-target l = mark_all (filter_map (number_at l.entries) (drop l.target-index l.targets)) (record { marks = l.marks; stack = l.stack.items }) ≡ mark_all (filter_map (number_at l.entries) l.targets) (record { marks = l.fn.marks; stack = l.fn.stack.items })
