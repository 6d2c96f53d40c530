use Rattle.dwc_base.specs.declared.records.Endian.TheVariants.{Little}
use Rattle.dwc_unit.proofs.RowLaws.{end-appended}
use Rattle.dwc_unit.proofs.rows.put_end.Goals as goal

pub returns : goal.returns
returns c = end-appended Little 8 c.args.last.now c.args.end_offset _ _ _ (rw (c.reserve.ensures.items) at c.put_advance.ensures.bytes) c.in_ok-extend_from_slice.ensures.items
