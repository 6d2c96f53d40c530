use Rattle.std.proofs.Common.{map}
use Rattle.dwc_image.specs.SimulatedSequences.{simulated_view}
use Rattle.dwc_image.proofs.SimulatedLaws.{given-simulated, program-simulated}
use Rattle.dwc_image.proofs.simulated.simulated_lines.Goals as goal

pub add_all-requires-clause-functions : goal.add_all-requires-clause-functions
add_all-requires-clause-functions c = given-simulated c.args.functions.now c.requires.functions

pub returns-clause-segments : goal.returns-clause-segments
returns-clause-segments c =
    rw (c.in_ok-add_all.ensures.added, c.in_ok-add_file.ensures.ok, c.in_ok-program.ensures)
    (program-simulated c.args.name.now c.args.encoding.address_size (map simulated_view c.args.functions.now) c.requires.functions)
