use Rattle.std.proofs.Common.{arith}
use Rattle.dwc_base.specs.Cursors.{slice_bytes}
use Rattle.dwc_unit.specs.SpelledLines.{FitsName}
use Rattle.dwc_image.proofs.LinesLaws.{mapped-at}
use Rattle.dwc_image.proofs.lines.add_directories.Goals as goal

pub add_directory-requires : goal.add_directory-requires
add_directory-requires c = mapped-at FitsName slice_bytes c.args.directories.now c.loop-directory.directory-index _ (omega (arith, c.loop-directory-test.true)) c.requires
