use Rattle.dwc_image.proofs.CanCarryLaws.{read-carried}
use Rattle.dwc_image.proofs.OrderLaws.{kept-ordered}
use Rattle.dwc_image.proofs.SegmentLaws.{steps-rise, carries-table}
use Rattle.dwc_image.proofs.lines.carried_lines.Goals as goal

pub add_directories-requires : goal.add_directories-requires
add_directories-requires c = rw c.directories.ensures (read-carried c.args.table.now c.requires.table).directories

pub add_files-requires : goal.add_files-requires
add_files-requires c = rw (c.in_ok-add_directories.ensures.added, c.in_ok-program.ensures, c.directories.ensures, c.files.ensures) (read-carried c.args.table.now c.requires.table).files

pub add_images-requires-clause-steps : goal.add_images-requires-clause-steps
add_images-requires-clause-steps c = rw (c.in_ok-add_files.ensures.added, c.in_ok-add_directories.ensures.added, c.in_ok-program.ensures, c.files.ensures) (read-carried c.args.table.now c.requires.table).steps

pub add_images-requires-clause-rise : goal.add_images-requires-clause-rise
add_images-requires-clause-rise c = steps-rise c.args.table.now (read-carried c.args.table.now c.requires.table).rise

pub add_images-requires-clause-functions : goal.add_images-requires-clause-functions
add_images-requires-clause-functions c = kept-ordered c.args.transform.now c.requires.functions

pub returns-clause-carries : goal.returns-clause-carries
returns-clause-carries c =
    carries-table c.args.table.now c.args.transform.now c.args.encoding.address_size _ _ _ _ (kept-ordered c.args.transform.now c.requires.functions)
    c.in_ok-program.ensures (rw c.directories.ensures at c.in_ok-add_directories.ensures.added) (rw c.files.ensures at c.in_ok-add_files.ensures.added) c.in_ok-add_images.ensures.added
