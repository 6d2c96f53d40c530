use Rattle.std.proofs.Common.{refl, subst}
use Rattle.dwc_types.specs.KeyedTypes.{EndsWay}
use Rattle.dwc_types.proofs.TypeKeyLaws.{behind-end, behind-keyed, behind-none}
use Rattle.dwc_types.proofs.type_key.end_key.Goals as goal

pub returns-in-Keyed-clause-key : goal.returns-in-Keyed-clause-key
returns-in-Keyed-clause-key c source s texts first way ends known =
    let keys = c.args.keys.now in
    behind-keyed source s texts keys first way c.in-Keyed.key known (subst (EndsWay source s keys first way) c.in-Keyed.is ends)

pub returns-in_ok-key_of_end-in-Named-clause-key : goal.returns-in_ok-key_of_end-in-Named-clause-key
returns-in_ok-key_of_end-in-Named-clause-key c source s texts first way ends known =
    let keys = c.args.keys.now in
    let e = subst (EndsWay source s keys first way) c.in-Named.is ends in
    behind-end source s texts c.key_of_end.new.keys first way c.in-Named.offset _ e (c.in_ok-key_of_end-in-Named.ensures.key source s texts e.name e.to.type e.to.at e.ends known)

pub returns-in-Open-clause-key : goal.returns-in-Open-clause-key
returns-in-Open-clause-key c source s texts first way ends known =
    let keys = c.args.keys.now in
    behind-none source s texts keys first way _ refl refl known (subst (EndsWay source s keys first way) c.in-Open.is ends)
