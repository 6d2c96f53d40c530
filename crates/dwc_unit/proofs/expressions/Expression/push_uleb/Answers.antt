use Rattle.dwc_section.proofs.ReadNumbers.{uleb_bytes-more, uleb_bytes-small}
use Rattle.dwc_section.proofs.Appended.{appended-more, appended-last}
use Rattle.dwc_unit.proofs.expressions.Expression.push_uleb.Goals as goal

pub loop-rest-preserved : goal.loop-rest-preserved
loop-rest-preserved c = appended-more _ _ _ _ _ _ c.in_ok-push.ensures.bytes (uleb_bytes-more c.loop-rest.rest c.loop-rest-test.true) c.loop-rest.invariant

pub returns : goal.returns
returns c = appended-last _ _ _ _ _ c.in_ok-push-2.ensures.bytes (uleb_bytes-small c.loop-rest.rest c.loop-rest-test.false) c.loop-rest.invariant
