use Rattle.dwc_isa.proofs.RegisterLaws.{get-entries}
use Rattle.std.proofs.Common.{◌∙◌}
use Rattle.dwc_isa.proofs.table_isa.TableIsaTargetIsa.map_regalloc_reg_to_dwarf.Goals as goal

pub returns : goal.returns
returns c = rw (← c.self.view_is, get-entries c.self.inside.registers.entries c.args.register.0) (c.copied.ensures ∙ c.get.ensures.value)
