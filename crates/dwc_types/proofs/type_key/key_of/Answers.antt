use Rattle.dwc_types.proofs.type_key.key_of.Goals as goal

pub returns-in_default-clause-key : goal.returns-in_default-clause-key
returns-in_default-clause-key c s texts known keyed = c.key_by_way.ensures.key c.args.source.now s texts c.args.first (c.in_ok-end.ensures.way s known) keyed

pub returns-clause-key : goal.returns-clause-key
returns-clause-key c s texts known keyed =
    let src = c.args.source.now in
    let once = c.in_ok-end.ensures.types s known in
    c.key_by_way-2.ensures.key src s texts c.args.first (c.in_ok-end-2.ensures.way s once) (c.in_ok-key_ring.ensures.keys src s texts once keyed)
