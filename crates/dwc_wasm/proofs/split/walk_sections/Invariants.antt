use Rattle.std.proofs.Common.{length}
use Rattle.dwc_wasm.proofs.WalkedSections.{Walked}
use Rattle.dwc_wasm.proofs.split.walk_sections.Given as goal

-- note was taken of the sections before the cursor
abbrev pub invariant-loop-translation : goal.invariant-loop-translation
invariant-loop-translation l = Walked l.fn.cursor l.cursor l.translation l.functions

abbrev pub decreases-loop-translation : goal.decreases-loop-translation
decreases-loop-translation l = length l.cursor.left
