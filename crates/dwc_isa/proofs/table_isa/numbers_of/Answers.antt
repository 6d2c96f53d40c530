use Rattle.std.proofs.Common.{arith}
use Rattle.dwc_isa.proofs.RegisterLaws.{number_in-before}
use Rattle.dwc_isa.proofs.table_isa.numbers_of.Goals as goal

pub loop-k-preserved : goal.loop-k-preserved
loop-k-preserved c = (λ q. rw (c.in_ok-insert.ensures.updates.0 q, c.loop-k.invariant.0 q) (number_in-before c.args.table.now c.loop-k.k _ q c.loop-k-test.true c.loop-k.invariant.1), omega (arith, c.loop-k.invariant.1))
