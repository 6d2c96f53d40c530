use Rattle.std.proofs.Common.{arith}
use Rattle.std.proofs.lemmas.Bool.{leb-true}
use Rattle.std.proofs.lemmas.List.{get_or_default}
use Rattle.dwc_addr.proofs.KeyLaws.{none-between}
use Rattle.dwc_addr.proofs.shown.has_none.Goals as goal

pub returns-in-Some : goal.returns-in-Some
returns-in-Some c = λ above.
    let found = c.in-Some.ensures.lookup in
    none-between c.args.keys.now c.args.low c.args.high c.keys_below.result c.requires c.keys_below.ensures
    (λ inside. omega (arith, leb-true _ _ above, found.1, get_or_default c.args.keys.now c.keys_below.result 0 c.in-Some.key.now inside))

pub returns-in-None : goal.returns-in-None
returns-in-None c = λ none.
    none-between c.args.keys.now c.args.low c.args.high c.keys_below.result c.requires c.keys_below.ensures (λ inside. absurd (omega (arith, inside, (c.in-None.ensures.lookup).3)))
