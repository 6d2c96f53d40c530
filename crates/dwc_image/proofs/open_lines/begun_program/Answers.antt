use Rattle.dwc_image.proofs.CanCarryLaws.{open-carried}
use Rattle.dwc_image.proofs.open_lines.begun_program.Goals as goal

pub add_directories-requires : goal.add_directories-requires
add_directories-requires c = rw c.directories.ensures (open-carried c.args.table.now c.requires).directories

pub add_files-requires : goal.add_files-requires
add_files-requires c = rw (c.in_ok-add_directories.ensures.added, c.in_ok-program.ensures, c.directories.ensures, c.files.ensures) (open-carried c.args.table.now c.requires).files
