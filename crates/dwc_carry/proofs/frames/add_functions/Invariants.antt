use Rattle.std.proofs.Common.{◌≡◌, ◌+◌, ◌++◌, drop}
use Rattle.dwc_frames.specs.Frames.{table_view}
use Rattle.dwc_carry.specs.CompiledFrames.{compiled_frames}
use Rattle.dwc_carry.proofs.frames.add_functions.Given as goal

-- the descriptions so far, and those of the functions that are left, are all; what all functions share stays
abbrev pub invariant-loop-i : goal.invariant-loop-i
invariant-loop-i l =
    ((table_view l.table).0 ≡ (table_view l.fn.table).0)
    × ((table_view l.table).1 ++ compiled_frames (l.first + l.i) (drop l.i l.functions) ≡ (table_view l.fn.table).1 ++ compiled_frames l.first l.functions)
