use Rattle.std.proofs.Common.{add-one}
use Rattle.std.proofs.lemmas.Result.{err_from_is_err_and}
use Rattle.dwc_section.proofs.WritesLaws.{ends-more, ends-refused}
use Rattle.dwc_write.proofs.entries.write_ends.Goals as goal

pub loop-preserved : goal.loop-preserved
loop-preserved c = rw add-one (ends-more c.loop.counter c.args.count c.loop.info _ _ c.loop-test.true c.loop.invariant c.in_ok-put_byte.ensures)

pub returns-in_err-put_byte : goal.returns-in_err-put_byte
returns-in_err-put_byte c =
    let p = err_from_is_err_and c.from_residual.result c.from_residual.ensures.1 in
    ends-refused c.loop.counter c.args.count c.loop.info c.args.info.now _ _ _ c.loop-test.true c.loop.invariant p c.in_err-put_byte.ensures
