use Rattle.dwc_image.proofs.OpenedLaws.{images-begin, images-stop, images-whole, taken-fewer, rows-fit, rows-rise}
use Rattle.dwc_image.proofs.open_lines.add_open_images.Goals as goal

pub loop-taken-init : goal.loop-taken-init
loop-taken-init c = images-begin c.args.transform.now c.args.table.now c.args.program.now c.requires.ended c.requires.files

pub add_image-requires-clause-order : goal.add_image-requires-clause-order
add_image-requires-clause-order c = rw c.deref.ensures.value (rows-rise c.loop-taken.start c.loop-taken.table c.next_rows.new.self c.next_rows.new.rows.items c.in-Ok.taken c.in-Ok.ensures)

pub add_image-requires-clause-each : goal.add_image-requires-clause-each
add_image-requires-clause-each c = rw c.deref.ensures.value (rows-fit c.loop-taken.table c.next_rows.new.self c.next_rows.new.rows.items c.in-Ok.taken _ c.loop-taken.invariant.known c.in-Ok.ensures)

pub loop-taken-smaller : goal.loop-taken-smaller
loop-taken-smaller c = taken-fewer c.loop-taken.table c.next_rows.new.self c.next_rows.new.rows.items c.in-Some.stop (rw c.in-Some.is at c.in-Ok.ensures)

pub loop-taken-preserved : goal.loop-taken-preserved
loop-taken-preserved c =
    rw (c.in-Ok-add_image.ensures.added, c.deref.ensures.value, c.start_behind-start.ensures)
    (images-stop c.args.transform.now c.args.table.now c.loop-taken.table c.next_rows.new.self c.args.program.now c.loop-taken.program c.loop-taken.start c.next_rows.new.rows.items c.loop-taken.invariant c.in-Some.stop (rw c.in-Some.is at c.in-Ok.ensures))

pub returns-in_default-taken-clause-added : goal.returns-in_default-taken-clause-added
returns-in_default-taken-clause-added c = λ _.
    images-whole c.args.transform.now c.args.table.now c.loop-taken.table c.next_rows.new.self c.args.program.now c.loop-taken.program c.loop-taken.start c.next_rows.new.rows.items c.loop-taken.invariant (rw c.in_default-taken.is at c.in-Ok.ensures)
