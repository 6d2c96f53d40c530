use Rattle.std.proofs.Common.{arith}
use Rattle.dwc_addr.proofs.KeyLaws.{tables-pushed}
use Rattle.dwc_addr.proofs.shown.source_tables.Goals as goal

pub loop-block-preserved : goal.loop-block-preserved
loop-block-preserved c =
    let i = c.loop-block.invariant in
    (omega (arith, i.0), omega (arith, c.loop-block-test.true, c.requires), rw (c.in_ok-push.ensures.items) (tables-pushed c.args.stretches.now c.loop-block.tables.items c.in_ok-source_table.field-0 i.2 c.in_ok-source_table.ensures))
