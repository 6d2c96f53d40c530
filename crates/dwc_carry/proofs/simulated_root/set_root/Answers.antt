use Rattle.std.proofs.Common.{ap, ◌∙◌}
use Rattle.dwc_carry.specs.SimulatedAdditions.{with_code}
use Rattle.dwc_carry.proofs.SimulatedRoots.{root-coded}
use Rattle.dwc_carry.proofs.simulated_root.set_root.Goals as goal

pub returns-clause-set : goal.returns-clause-set
returns-clause-set c =
    let old = c.args.unit.now in
    c.in_ok-set_code.ensures.set
    ∙ ap (with_code c.args.output_for c.args.ranges) c.in_ok-set_names.ensures.set
    ∙ root-coded c.args.output_for old.version old.address_size old.lines c.args.texts.now c.args.ranges
