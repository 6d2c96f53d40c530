use Rattle.std.proofs.Common.{◌≡◌, drop, map}
use Rattle.dwc_base.specs.Cursors.{slice_bytes}
use Rattle.dwc_image.specs.CarriedLines.{with_directories}
use Rattle.dwc_image.proofs.lines.add_directories.Given as goal

-- the directories so far, and those that are left, are all
abbrev pub invariant-loop-directory : goal.invariant-loop-directory
invariant-loop-directory l = with_directories (map slice_bytes (drop l.directory-index l.directories)) l.program ≡ with_directories (map slice_bytes l.directories) l.fn.program
