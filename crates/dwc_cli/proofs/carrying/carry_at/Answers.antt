use Rattle.dwc_cli.proofs.carrying.carry_at.Goals as goal

pub returns-clause-carried : goal.returns-clause-carried
returns-clause-carried c = λ read is. c.compiled.ensures.carried read (rw (c.tunables-tunables.ensures.version, c.tunables-tunables.ensures.output, c.in_ok-isa.ensures.order, c.in_ok-isa.ensures.size, c.in_ok-isa.ensures.registers, c.in_ok-isa.ensures.entry) is)
