use Rattle.dwc_extents.proofs.NativeRangeLaws.{zero-fits}
use Rattle.dwc_carry.proofs.simulated_root.set_code.Goals as goal

pub set-requires-clause-fits : goal.set-requires-clause-fits
set-requires-clause-fits c = c.requires.fits c.args.unit.now.address_size

pub set-requires-in-Debugger-clause-fits : goal.set-requires-in-Debugger-clause-fits
set-requires-in-Debugger-clause-fits c = zero-fits c.args.unit.now.address_size

pub set-requires-in-Debugger-2-clause-fits : goal.set-requires-in-Debugger-2-clause-fits
set-requires-in-Debugger-2-clause-fits c = c.requires.fits c.set-in-Debugger.new.self.address_size
