use Rattle.std.proofs.Common.{refl, ap, arith, length}
use Rattle.dwc_section.proofs.ReadNumbers.{uleb_bytes-length, uleb_bytes-more, uleb_bytes-small}
use Rattle.dwc_section.proofs.leb_sizes.uleb_length.Goals as goal

pub loop-rest-init : goal.loop-rest-init
loop-rest-init c = record { counted = refl; most = omega (arith, uleb_bytes-length 9 c.args.value (omega arith)) }

pub loop-rest-preserved : goal.loop-rest-preserved
loop-rest-preserved c =
    let more = ap length (uleb_bytes-more c.loop-rest.rest c.loop-rest-test.true) in
    record { counted = omega (arith, more, c.loop-rest.invariant.counted); most = omega (arith, more, c.loop-rest.invariant.most) }

pub returns-clause-length : goal.returns-clause-length
returns-clause-length c = omega (arith, ap length (uleb_bytes-small c.loop-rest.rest c.loop-rest-test.false), c.loop-rest.invariant.counted)

pub returns-clause-most : goal.returns-clause-most
returns-clause-most c = omega (arith, ap length (uleb_bytes-small c.loop-rest.rest c.loop-rest-test.false), c.loop-rest.invariant.most)
