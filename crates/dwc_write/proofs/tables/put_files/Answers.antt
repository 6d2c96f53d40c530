use Rattle.std.proofs.Common.{arith}
use Rattle.dwc_unit.proofs.NameLaws.{files-more}
use Rattle.dwc_write.proofs.tables.put_files.Goals as goal

pub loop-i-preserved : goal.loop-i-preserved
loop-i-preserved c = files-more c.args.files.now c.loop-i.i c.name.result.now c.directory.result c.loop-i.out.items c.put_file.new.out.items _ (omega (arith, c.loop-i-test.true, c.len-i-end.ensures)) c.name.ensures c.directory.ensures c.in_ok-put_file.ensures c.loop-i.invariant
