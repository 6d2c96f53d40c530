use Rattle.std.proofs.Common.{subst}
use Rattle.dwc_types.specs.KeyedTypes.{KnowsBehind}
use Rattle.dwc_types.proofs.type_key.key_by_way.Goals as goal

pub returns-in-Some-clause-key : goal.returns-in-Some-clause-key
returns-in-Some-clause-key c source s texts first ends known =
    c.keep_way.ensures.key source s texts first (subst (KnowsBehind source s texts c.end_key.new.keys first c.args.way.now.items) c.in-Some.is (c.in_ok-key.ensures.key source s texts first c.args.way.now.items ends known))

pub returns-in-None-clause-key : goal.returns-in-None-clause-key
returns-in-None-clause-key c source s texts first ends known = subst (KnowsBehind source s texts c.end_key.new.keys first c.args.way.now.items) c.in-None.is (c.in_ok-key.ensures.key source s texts first c.args.way.now.items ends known)
