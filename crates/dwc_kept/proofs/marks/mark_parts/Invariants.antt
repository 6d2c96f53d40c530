use Rattle.std.proofs.Common.{◌≡◌, length, suc}
use Rattle.dwc_kept.specs.GraphEntries.{mark_all, parts_below}
use Rattle.dwc_kept.proofs.PartWalks.{IsPart}
use Rattle.dwc_kept.proofs.marks.mark_parts.Given as goal

-- the parts up to the one that is looked at lead from the marks so far to those of all
abbrev pub invariant-loop-part : goal.invariant-loop-part
invariant-loop-part l = IsPart l.entries l.number l.part × (mark_all (parts_below l.entries l.number (suc l.part)) (record { marks = l.marks; stack = l.stack.items }) ≡ mark_all (parts_below l.entries l.number (length l.entries)) (record { marks = l.fn.marks; stack = l.fn.stack.items }))

abbrev pub decreases-loop-part : goal.decreases-loop-part
decreases-loop-part l = l.part
