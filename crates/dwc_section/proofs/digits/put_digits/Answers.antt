use Rattle.std.proofs.Common.{refl, ap, arith, length}
use Rattle.dwc_section.proofs.ReadNumbers.{uleb_bytes-more, uleb_bytes-small, uleb_bytes-length}
use Rattle.dwc_section.proofs.Appended.{appended-more, appended-last}
use Rattle.dwc_section.proofs.digits.put_digits.Goals as goal

pub loop-rest-init : goal.loop-rest-init
loop-rest-init c = record { put = refl; most = omega (arith, uleb_bytes-length 9 c.args.value (omega arith)); room = refl }

pub push_reserved-requires : goal.push_reserved-requires
push_reserved-requires c = omega (arith, ap length (uleb_bytes-more c.loop-rest.rest c.loop-rest-test.true), c.loop-rest.invariant.most, c.loop-rest.invariant.room, c.requires)

pub loop-rest-preserved : goal.loop-rest-preserved
loop-rest-preserved c =
    let more = uleb_bytes-more c.loop-rest.rest c.loop-rest-test.true in
    record {
      put = appended-more _ _ _ _ _ _ c.push_reserved.ensures.items more c.loop-rest.invariant.put;
      most = omega (arith, ap length more, c.push_reserved.ensures.len, c.loop-rest.invariant.most);
      room = omega (arith, c.push_reserved.ensures.capacity, c.loop-rest.invariant.room);
    }

pub push_reserved-requires-2 : goal.push_reserved-requires-2
push_reserved-requires-2 c = omega (arith, ap length (uleb_bytes-small c.loop-rest.rest c.loop-rest-test.false), c.loop-rest.invariant.most, c.loop-rest.invariant.room, c.requires)

pub returns-clause-bytes : goal.returns-clause-bytes
returns-clause-bytes c = appended-last _ _ _ _ _ c.push_reserved-2.ensures.items (uleb_bytes-small c.loop-rest.rest c.loop-rest-test.false) c.loop-rest.invariant.put

pub returns-clause-most : goal.returns-clause-most
returns-clause-most c = omega (arith, ap length (uleb_bytes-small c.loop-rest.rest c.loop-rest-test.false), c.push_reserved-2.ensures.len, c.loop-rest.invariant.most)

pub returns-clause-room : goal.returns-clause-room
returns-clause-room c = omega (arith, c.push_reserved-2.ensures.capacity, c.loop-rest.invariant.room)
