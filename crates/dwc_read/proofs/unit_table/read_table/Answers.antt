use Rattle.std.proofs.Common.{◌≡◌}
use Rattle.dwc_base.specs.declared.section_name.SectionName.TheVariants.{Abbrev}
use Rattle.dwc_base.specs.Sections.{section_from}
use Rattle.dwc_read.proofs.TableLaws.{abbreviation_table-read, abbreviation_table-flaw}
use Rattle.dwc_read.proofs.unit_table.read_table.Goals as goal

pub returns-in_ok-table_of-in-Ok-clause-table : goal.returns-in_ok-table_of-in-Ok-clause-table
returns-in_ok-table_of-in-Ok-clause-table c =
    let s = c.args.sections.now in
    let at : c.at-cursor.result ≡ section_from s Abbrev c.args.offset = rw (← c.bytes-bytes.ensures.bytes, ← c.order.ensures) c.at-cursor.ensures in
    rw c.in_ok-table_of-in-Ok.ensures (abbreviation_table-read s c.args.offset _ _ (rw at at c.in-Ok.ensures))

pub returns-in_ok-table_of-in-Err-Flawed-clause-table : goal.returns-in_ok-table_of-in-Err-Flawed-clause-table
returns-in_ok-table_of-in-Err-Flawed-clause-table c =
    let s = c.args.sections.now in
    let at : c.at-cursor.result ≡ section_from s Abbrev c.args.offset = rw (← c.bytes-bytes.ensures.bytes, ← c.order.ensures) c.at-cursor.ensures in
    rw c.in-Err-Flawed.flaw-is (abbreviation_table-flaw s c.args.offset c.in-Err-Flawed.flaw (rw (at, c.in-Err-Flawed.field-0-is) at c.in-Err-Flawed.ensures))
