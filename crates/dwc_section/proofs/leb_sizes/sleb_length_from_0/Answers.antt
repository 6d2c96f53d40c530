use Rattle.std.proofs.Common.{refl, ap, arith, length}
use Rattle.dwc_section.proofs.ReadNumbers.{sleb_bytes-more, sleb_bytes-small}
use Rattle.dwc_section.proofs.LebSizes.{sleb-most}
use Rattle.dwc_section.proofs.leb_sizes.sleb_length_from_0.Goals as goal

pub loop-rest-init : goal.loop-rest-init
loop-rest-init c = record { counted = refl; most = omega (arith, sleb-most c.args.value (omega arith)) }

pub loop-rest-preserved : goal.loop-rest-preserved
loop-rest-preserved c =
    let more = ap length (sleb_bytes-more c.loop-rest.rest c.loop-rest-test.true) in
    record { counted = omega (arith, more, c.loop-rest.invariant.counted); most = omega (arith, more, c.loop-rest.invariant.most) }

pub returns : goal.returns
returns c = omega (arith, ap length (sleb_bytes-small c.loop-rest.rest c.loop-rest-test.false), c.loop-rest.invariant.counted)
