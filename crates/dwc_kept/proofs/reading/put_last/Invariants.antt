use Rattle.std.proofs.Common.{◌≡◌, ◌-◌, suc, length}
use Rattle.dwc_kept.specs.ReadEntries.{with_last_at}
use Rattle.dwc_kept.proofs.reading.put_last.Given as goal

-- depths without an entry change nothing
abbrev pub invariant-loop-lasts : goal.invariant-loop-lasts
invariant-loop-lasts l = with_last_at l.lasts.items l.depth l.last ≡ with_last_at l.fn.lasts.items l.depth l.last

abbrev pub decreases-loop-lasts : goal.decreases-loop-lasts
decreases-loop-lasts l = suc l.depth - length l.lasts.items
