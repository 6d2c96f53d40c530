use Rattle.std.proofs.Common.{map}
use Rattle.dwc_write.proofs.PathLaws.{IsNaming}
use Rattle.dwc_write.proofs.line_names.use_files.Given as goal

-- the names of the first files are used
abbrev pub invariant-loop-i : goal.invariant-loop-i
invariant-loop-i l = IsNaming (map (λ f. f.name) l.files) l.i l.initial.names l.names
