use Rattle.std.proofs.Common.{inr, subst, sym}
use Rattle.dwc_types.specs.TypeRings.{IsPath, IsStep}
use Rattle.dwc_types.proofs.RingWalkLaws.{path-more}
use Rattle.dwc_types.proofs.type_ring.ring_at.Goals as goal

pub returns-then-named-own : goal.returns-then-named-own
returns-then-named-own c = inr (record {
  front = c.loop.ring.items;
  last = c.in-Some.met;
  is = c.in_ok-push.ensures.items;
  at = c.loop.next;
  path = c.loop.invariant;
  step = record { here = c.in-Some.ensures; next = c.in-Some-next.named; next_is = c.in-Some-next.is };
  closes = c.if-named-own.true;
})

pub loop-preserved : goal.loop-preserved
loop-preserved c =
    let types = c.args.types.now in
    let own = c.args.own in
    let step : IsStep types c.loop.next c.in-Some.met = record { here = c.in-Some.ensures; next = c.in-Some-next.named; next_is = c.in-Some-next.is } in
    subst (λ ts. IsPath types own own ts c.in-Some-next.named.offset) (sym c.in_ok-push.ensures.items) (path-more types own own c.loop.next c.loop.ring.items c.in-Some.met c.loop.invariant step c.if-named-own.false)
