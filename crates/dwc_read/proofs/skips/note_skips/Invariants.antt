use Rattle.std.proofs.Common.{◌≡◌, ◌≤◌, drop, map, length}
use Rattle.dwc_read.specs.AttributeSpecs.{spec_view}
use Rattle.dwc_read.specs.Skips.{IsSkip, AreSkips}
use Rattle.dwc_read.proofs.skips.note_skips.Given as goal

-- the attributes stay as they were, those from k on note their skips, and the skip that begins at k is kept
abbrev pub invariant-loop-k : goal.invariant-loop-k
invariant-loop-k l =
    (map spec_view l.specs ≡ map spec_view l.fn.specs)
    × AreSkips (drop l.k l.specs)
    × IsSkip l.skip (map spec_view (drop l.k l.specs))
    × (l.k ≤ length l.specs)

abbrev pub decreases-loop-k : goal.decreases-loop-k
decreases-loop-k l = l.k
