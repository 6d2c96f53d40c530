use Rattle.std.proofs.Common.{◌≡◌, map, drop}
use Rattle.std.specs.Ordering.{nat_cmp}
use Rattle.std.specs.Cmp.Lexicographic.{slice_cmp}
use Rattle.std.specs.FinMap as finite
use Rattle.dwc_cli.specs.Memory.{file_entry}
use Rattle.dwc_cli.proofs.memory_files.file_at.Given as goal

abbrev pub invariant-loop-file : goal.invariant-loop-file
invariant-loop-file l =
    finite.find (slice_cmp nat_cmp) l.path (map file_entry (drop l.file l.files)) ≡ finite.find (slice_cmp nat_cmp) l.path (map file_entry l.files)
