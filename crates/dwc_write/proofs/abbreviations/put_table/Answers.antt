use Rattle.std.proofs.Common.{add-one}
use Rattle.dwc_write.proofs.ShapeLaws.{table-more}
use Rattle.dwc_write.proofs.abbreviations.put_table.Goals as goal

pub loop-i-preserved : goal.loop-i-preserved
loop-i-preserved c =
    rw add-one
    (table-more c.args.shapes.now c.loop-i.i c.index-shapes-i.result _ _ _ _ c.loop-i-test.true c.requires (rw add-one at c.in_ok-put_uleb.ensures) (rw (← c.index-shapes-i.is) c.in_ok-put_shape.ensures) c.loop-i.invariant)
