use Rattle.std.proofs.Common.{◌≡◌, ◌++◌, drop}
use Rattle.std.specs.List.{flat_map}
use Rattle.dwc_section.specs.Spelled.{text_bytes}
use Rattle.dwc_write.proofs.tables.put_directories.Given as goal

-- what is there, and what is left to append
abbrev pub invariant-loop-i : goal.invariant-loop-i
invariant-loop-i l = l.out.items ++ flat_map text_bytes (drop l.i l.directories) ≡ l.initial.out.items ++ flat_map text_bytes l.directories
