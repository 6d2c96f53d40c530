use Rattle.std.proofs.Common.{arith}
use Rattle.dwc_unit.proofs.AttributeLaws.{place_from-before}
use Rattle.dwc_unit.proofs.attributes.places_of.Goals as goal

pub loop-k-preserved : goal.loop-k-preserved
loop-k-preserved c = (λ q. rw (c.in_ok-insert.ensures.updates.0 q, c.name.ensures, c.index-attributes-k.is, c.loop-k.invariant.0 q) (place_from-before c.args.attributes.now c.loop-k.k c.index-attributes-k.result q c.loop-k-test.true c.loop-k.invariant.1), omega (arith, c.loop-k.invariant.1))
