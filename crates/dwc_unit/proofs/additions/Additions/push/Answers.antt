use Rattle.std.proofs.Common.{arith, refl}
use Rattle.dwc_unit.proofs.AdditionLaws.{apart-push, owned-push}
use Rattle.dwc_unit.proofs.additions.Additions.push.Goals as goal

pub invariant_of-self-2 : goal.invariant_of-self-2
invariant_of-self-2 c =
    let shared = c.self.inside.shared in
    rw (c.in_ok-push.ensures.items) (record {
      apart = apart-push 0 shared.items c.self.inside.entries.items _ c.self.invariant.apart (omega (arith, c.len.ensures, shared.ok.0, shared.ok.1)) refl;
      owned = owned-push _ c.self.inside.entries.items _ c.self.invariant.owned c.none.ensures;
    })
