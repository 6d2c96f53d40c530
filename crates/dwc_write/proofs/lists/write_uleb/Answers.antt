use Rattle.std.proofs.lemmas.Result.{err_from_is_err_and}
use Rattle.dwc_write.proofs.ContributionLaws.{uleb-last, uleb-more, uleb-refused}
use Rattle.dwc_write.proofs.lists.write_uleb.Goals as goal

pub loop-rest-preserved : goal.loop-rest-preserved
loop-rest-preserved c = uleb-more c.loop-rest.rest c.loop-rest.lists _ _ c.loop-rest-test.true c.loop-rest.invariant c.in_ok-put_byte.ensures

pub returns-in_err-put_byte : goal.returns-in_err-put_byte
returns-in_err-put_byte c =
    let p = err_from_is_err_and c.from_residual.result c.from_residual.ensures.1 in
    uleb-refused c.loop-rest.rest c.args.value c.loop-rest.lists c.args.lists.now _ _ _ c.loop-rest-test.true c.loop-rest.invariant p c.in_err-put_byte.ensures

pub returns : goal.returns
returns c = uleb-last c.loop-rest.rest c.args.value c.loop-rest.lists c.args.lists.now _ _ c.loop-rest-test.false c.loop-rest.invariant c.put_byte-2.ensures
