use Rattle.std.proofs.Common.{◌≡◌, drop}
use Rattle.dwc_section.proofs.WritesLaws.{whole}
use Rattle.dwc_write.specs.PathTables.{path_file_bytes, path_relocations}
use Rattle.dwc_write.proofs.path_tables.put_files.Given as goal

-- what is there, with the files that are left, is the whole
abbrev pub invariant-loop-i : goal.invariant-loop-i
invariant-loop-i l =
    whole (path_file_bytes l.initial.line.order l.names.texts) (λ p f. path_relocations l.names.texts p f.name) (drop l.i l.files) l.line
    ≡ whole (path_file_bytes l.initial.line.order l.names.texts) (λ p f. path_relocations l.names.texts p f.name) l.files l.initial.line
