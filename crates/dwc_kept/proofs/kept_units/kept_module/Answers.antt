use Rattle.dwc_kept.proofs.KeptReadings.{keep-all}
use Rattle.dwc_kept.proofs.kept_units.kept_module.Goals as goal

pub returns : goal.returns
returns c = keep-all c.args.transform.now c.args.sections c.new.result c.keep.result c.new.ensures c.keep.ensures
