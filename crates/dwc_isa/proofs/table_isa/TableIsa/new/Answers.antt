use Rattle.dwc_isa.proofs.RegisterLaws.{same-registers}
use Rattle.std.proofs.Common.{refl}
use Rattle.dwc_isa.proofs.table_isa.TableIsa.new.Goals as goal

pub returns : goal.returns
returns c = rw (same-registers c.in_ok-registers.registers.entries c.args.registers.items (rw (← c.deref.ensures.value) c.in_ok-registers.ensures)) refl
