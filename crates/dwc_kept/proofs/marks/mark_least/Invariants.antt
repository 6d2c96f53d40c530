use Rattle.dwc_kept.proofs.MarkWalks.{WorkSoFar, work_left}
use Rattle.dwc_kept.proofs.marks.mark_least.Given as goal

-- what the marked entries keep is marked too, but for those that are still to be looked at
abbrev pub invariant-loop-number : goal.invariant-loop-number
invariant-loop-number l = WorkSoFar l.entries l.targets l.required (record { marks = l.marks; stack = l.stack.items })

abbrev pub decreases-loop-number : goal.decreases-loop-number
decreases-loop-number l = work_left (record { marks = l.marks; stack = l.stack.items })
