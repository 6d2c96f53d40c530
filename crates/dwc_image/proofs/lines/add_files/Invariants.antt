use Rattle.std.proofs.Common.{◌≡◌, drop, map}
use Rattle.dwc_tabs.specs.Headers.{file_view}
use Rattle.dwc_image.specs.CarriedLines.{with_files}
use Rattle.dwc_image.proofs.lines.add_files.Given as goal

-- the files so far, and those that are left, are all
abbrev pub invariant-loop-file : goal.invariant-loop-file
invariant-loop-file l = with_files (map file_view (drop l.file-index l.files)) l.program ≡ with_files (map file_view l.files) l.fn.program
