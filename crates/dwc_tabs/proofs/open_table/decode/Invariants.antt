use Rattle.std.proofs.Common.{length}
use Rattle.dwc_tabs.specs.Steps.{registers_view}
use Rattle.dwc_tabs.proofs.DecodeLaws.{DecodedSoFar}
use Rattle.dwc_tabs.proofs.open_table.decode.Given as goal

-- what is decoded so far
abbrev pub invariant-loop-cursor : goal.invariant-loop-cursor
invariant-loop-cursor l = DecodedSoFar l.parameters l.relocations l.files (registers_view l.fn.registers) l.fn.cursor (registers_view l.registers) l.cursor l.rows.items

abbrev pub decreases-loop-cursor : goal.decreases-loop-cursor
decreases-loop-cursor l = length l.cursor.left
