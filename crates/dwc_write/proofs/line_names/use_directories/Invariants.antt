use Rattle.dwc_write.proofs.PathLaws.{IsNaming}
use Rattle.dwc_write.proofs.line_names.use_directories.Given as goal

-- the first directories are used
abbrev pub invariant-loop-i : goal.invariant-loop-i
invariant-loop-i l = IsNaming l.directories l.i l.initial.names l.names
