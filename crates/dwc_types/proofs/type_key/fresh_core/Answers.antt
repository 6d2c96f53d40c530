use Rattle.dwc_types.proofs.TypeKeyLaws.{one-core-answer}
use Rattle.dwc_types.proofs.type_key.fresh_core.Goals as goal

pub returns-clause-core : goal.returns-clause-core
returns-clause-core c source s texts known name = one-core-answer source s texts known.text c.args.keys.now.count c.fresh_cores.new.keys name c.fresh_cores.result (c.fresh_cores.ensures.cores source s texts known (λ j. name))
