use Rattle.dwc_types.proofs.type_key.next_way.Goals as goal

pub returns-clause-types : goal.returns-clause-types
returns-clause-types c s known = c.follow_way.ensures.types s (c.in_ok-walk.ensures.types c.args.source.now s known)

pub returns-clause-way : goal.returns-clause-way
returns-clause-way c s known = c.follow_way.ensures.way s (c.in_ok-walk.ensures.types c.args.source.now s known)
