use Rattle.std.proofs.Common.{◌≡◌, ◌++◌, drop}
use Rattle.dwc_frames.specs.Frames.{table_view}
use Rattle.dwc_addr.specs.Numbers.{first_number}
use Rattle.dwc_carry.specs.CompiledFrames.{all_frames}
use Rattle.dwc_carry.proofs.frames.add_modules.Given as goal

-- the descriptions so far, and those of the modules that are left, are all; what all functions share stays
abbrev pub invariant-loop-i : goal.invariant-loop-i
invariant-loop-i l =
    let modules = l.compilation.functions in
    ((table_view l.table).0 ≡ (table_view l.fn.table).0)
    × ((table_view l.table).1 ++ all_frames (first_number modules l.i) (drop l.i modules) ≡ (table_view l.fn.table).1 ++ all_frames 0 modules)
