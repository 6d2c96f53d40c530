use Rattle.std.proofs.Common.{◌≡◌, drop}
use Rattle.dwc_section.proofs.WritesLaws.{whole}
use Rattle.dwc_write.specs.PathTables.{path_bytes, path_relocations}
use Rattle.dwc_write.proofs.path_tables.put_directories.Given as goal

-- what is there, with the directories that are left, is the whole
abbrev pub invariant-loop-i : goal.invariant-loop-i
invariant-loop-i l =
    whole (path_bytes l.initial.line.order l.names.texts) (path_relocations l.names.texts) (drop l.i l.directories) l.line
    ≡ whole (path_bytes l.initial.line.order l.names.texts) (path_relocations l.names.texts) l.directories l.initial.line
