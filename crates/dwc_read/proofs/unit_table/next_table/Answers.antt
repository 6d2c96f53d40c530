use Rattle.dwc_read.specs.KnownTables.{IsLast}
use Rattle.std.proofs.Common.{Some}
use Rattle.dwc_read.proofs.unit_table.next_table.Goals as goal

pub returns-clause-table : goal.returns-clause-table
returns-clause-table c =
    let last : IsLast c.args.sections.now (Some c.in-Some.last) = rw c.in-Some.is at c.requires.1 in
    c.in_ok-shared.ensures c.args.sections.now c.args.offset (rw c.if-last-offset.true at last)
