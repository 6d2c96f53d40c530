use Rattle.dwc_addr.proofs.NativeLaws.{natives-rise, part-rises}
use Rattle.dwc_addr.proofs.positions.sources_of.Goals as goal

pub returns-clause-native : goal.returns-clause-native
returns-clause-native c =
    let m = c.args.function.now in
    rw c.part.ensures (part-rises (λ e. e.generated) m.addresses c.args.run.now.first c.args.run.now.behind c.requires.inside (natives-rise m))
