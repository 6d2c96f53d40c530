use Rattle.dwc_isa.proofs.label_registers.add_register_of.Goals as goal

pub returns-in-Reg-clause-registers : goal.returns-in-Reg-clause-registers
returns-in-Reg-clause-registers c = rw c.in-Reg.is c.add_register.ensures.registers
