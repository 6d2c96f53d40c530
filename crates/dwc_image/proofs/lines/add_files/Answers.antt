use Rattle.std.proofs.Common.{◌≡◌, length, ap, arith}
use Rattle.dwc_tabs.specs.Headers.{file_view}
use Rattle.dwc_image.specs.CarriedLines.{FitsDirectories}
use Rattle.dwc_image.proofs.LinesLaws.{mapped-at}
use Rattle.dwc_image.proofs.lines.add_files.Goals as goal

pub add_file-requires-clause-name : goal.add_file-requires-clause-name
add_file-requires-clause-name c = (mapped-at (FitsDirectories (length c.args.program.now.directories)) file_view c.args.files.now c.loop-file.file-index _ (omega (arith, c.loop-file-test.true)) c.requires).name

pub add_file-requires-clause-directory : goal.add_file-requires-clause-directory
add_file-requires-clause-directory c =
    let same : length c.loop-file.program.directories ≡ length c.args.program.now.directories = ap (λ g. length g.directories) c.loop-file.invariant in
    rw same (mapped-at (FitsDirectories (length c.args.program.now.directories)) file_view c.args.files.now c.loop-file.file-index _ (omega (arith, c.loop-file-test.true)) c.requires).known
