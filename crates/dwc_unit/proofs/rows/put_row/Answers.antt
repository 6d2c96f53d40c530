use Rattle.dwc_base.specs.declared.records.Endian.TheVariants.{Little}
use Rattle.dwc_unit.specs.GivenLines.{row_at}
use Rattle.dwc_unit.proofs.ReadWritten.{row-appended}
use Rattle.dwc_unit.proofs.rows.put_row.Goals as goal

pub returns : goal.returns
returns c =
    row-appended Little 8 c.args.before.now (row_at c.args.offset c.args.row.now) _ _ _ _ _ _ _ _ _ _ _ _ c.put_discriminator.ensures.bytes c.put_flag.ensures.bytes c.put_flag-2.ensures.bytes c.put_flag-3.ensures.bytes
    (rw (c.differs.ensures) at c.put_flag-4.ensures.bytes) c.put_number.ensures.bytes c.put_number-2.ensures.bytes c.put_number-3.ensures.bytes c.put_line.ensures.bytes c.put_advance.ensures.bytes c.push_reserved.ensures.items
