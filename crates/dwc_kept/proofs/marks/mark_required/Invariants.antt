use Rattle.std.proofs.Common.{◌≡◌, drop}
use Rattle.dwc_kept.specs.GraphEntries.{mark_all, numbers_from}
use Rattle.dwc_kept.proofs.marks.mark_required.Given as goal

-- the tests that are left lead from the marks so far to those of all
abbrev pub invariant-loop-i : goal.invariant-loop-i
invariant-loop-i l = mark_all (numbers_from l.i (drop l.i l.required)) (record { marks = l.marks; stack = l.stack.items }) ≡ mark_all (numbers_from 0 l.required) (record { marks = l.fn.marks; stack = l.fn.stack.items })
