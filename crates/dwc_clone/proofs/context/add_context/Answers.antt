use Rattle.dwc_clone.proofs.ContextLaws.{part-of-made, part-without-place}
use Rattle.dwc_clone.proofs.context.add_context.Goals as goal

pub set-requires-clause-fits : goal.set-requires-clause-fits
set-requires-clause-fits c = c.requires.fits c.add_made.new.unit.address_size

pub returns-clause-part : goal.returns-clause-part
returns-clause-part c = part-without-place c.args.parent.index c.args.vmctx_ptr_die_ref c.in_ok-name.name c.args.unit.now c.set.new.self c.add_made.new.unit c.set.result c.in_ok-variable.ensures.added c.set.ensures.err
