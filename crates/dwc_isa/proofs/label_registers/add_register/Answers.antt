use Rattle.std.proofs.Common.{◌∙◌, sym}
use Rattle.dwc_isa.specs.LabelRegisters.{register_numbers}
use Rattle.dwc_isa.proofs.LabelRegisterLaws.{there-already, not-false}
use Rattle.dwc_isa.proofs.label_registers.add_register.Goals as goal

pub returns-else-branch-clause-registers : goal.returns-else-branch-clause-registers
returns-else-branch-clause-registers c =
    there-already (register_numbers c.args.registers.now.items) c.args.register.0 (sym (c.requires c.args.register.0) ∙ not-false _ (sym c.in_ok-insert.ensures.added ∙ c.if-branch.false))
