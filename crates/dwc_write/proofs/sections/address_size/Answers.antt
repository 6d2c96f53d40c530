use Rattle.dwc_write.proofs.sections.address_size.Goals as goal

pub returns-clause-known : goal.returns-clause-known
returns-clause-known c = c.unit.invariant.size
