use Rattle.std.proofs.Common.{arith}
use Rattle.dwc_addr.proofs.StartLaws.{owner_place-found, owner_place-none, starts-rise, begun-parts}
use Rattle.dwc_addr.proofs.by_start.owner_place.Goals as goal

pub returns-then-count-eq0 : goal.returns-then-count-eq0
returns-then-count-eq0 c = λ fs t.
    let keys = c.args.keys.now in
    let at = begun-parts keys c.begun_count-count.result c.args.addr (c.begun_count-count.ensures.count (starts-rise fs keys t)) in
    owner_place-none fs keys c.args.addr t (rw c.if-count-eq0.true at at)

pub returns : goal.returns
returns c = λ fs t.
    let keys = c.args.keys.now in
    let at = begun-parts keys c.begun_count-count.result c.args.addr (c.begun_count-count.ensures.count (starts-rise fs keys t)) in
    rw c.place_of.ensures (owner_place-found fs keys c.args.addr _ t c.begun_count-count.ensures.inside (omega arith) at)
