use Rattle.dwc_carry.proofs.PathLaws.{plain-given}
use Rattle.dwc_carry.proofs.simulated_unit.plain_path.Goals as goal

pub returns-clause-plain : goal.returns-clause-plain
returns-clause-plain c = plain-given c.args.translation.now c.args.next_id c.unit_path.result c.ranges.next_id.fits c.unit_path.ensures
