use Rattle.std.proofs.Common.{sym, subst}
use Rattle.std.specs.List.{All}
use Rattle.dwc_read.specs.KnownTables.{IsKnown}
use Rattle.dwc_read.proofs.unit_table.found_table.Goals as goal

pub returns-in-Some-clause-table : goal.returns-in-Some-clause-table
returns-in-Some-clause-table c =
    let s = c.args.sections.now in
    let known : All (IsKnown s) c.deref-2.result.now = subst (All (IsKnown s)) (sym c.deref-2.ensures.value) c.read_up_to.ensures in
    rw c.in-Some.is at c.in_ok-table.ensures s known
