use Rattle.std.proofs.Common.{◌≡◌, ◌++◌, map, drop}
use Rattle.dwc_kept.specs.EntryGraphs.{marked_of}
use Rattle.dwc_kept.proofs.kept.marked_offsets.Given as goal

-- the offsets so far, and those of the entries that are left, are all
abbrev pub invariant-loop-i : goal.invariant-loop-i
invariant-loop-i l = l.offsets.items ++ marked_of (map (λ e. e.offset) (drop l.i l.entries)) (drop l.i l.marks) ≡ marked_of (map (λ e. e.offset) l.entries) l.marks
