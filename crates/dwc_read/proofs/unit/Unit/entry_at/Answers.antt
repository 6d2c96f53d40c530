use Rattle.std.proofs.Common.{◌≡◌, Ok}
use Rattle.std.proofs.lemmas.Result.{err_from_is_err_and}
use Rattle.dwc_base.specs.Abbreviations.{abbreviation_table}
use Rattle.dwc_read.specs.Faults.{Refuses, fault_seen}
use Rattle.dwc_read.specs.Lone.{unread_from}
use Rattle.dwc_read.proofs.FailsLaws.{Refuses-along}
use Rattle.dwc_read.proofs.LoneLaws.{lone_entry-table, lone_entry-fault, entry_with-empty}
use Rattle.dwc_read.proofs.unit.Unit.entry_at.Goals as goal

pub returns-in_err-table : goal.returns-in_err-table
returns-in_err-table c =
    let p = err_from_is_err_and c.from_residual.result c.from_residual.ensures.1 in
    let unit = c.args.self.now in
    let table = abbreviation_table unit.sections unit.header.abbreviations in
    let refused : Refuses table (fault_seen c.in_err-table.field-0.0) = c.in_err-table.ensures in
    rw (p.1, p.2) (Refuses-along _ table _ (λ fault read. lone_entry-fault unit (unread_from unit c.args.offset) fault read) refused)

pub returns-in_default : goal.returns-in_default
returns-in_default c =
    let unit = c.args.self.now in
    let table : abbreviation_table unit.sections unit.header.abbreviations ≡ Ok c.in_ok-table.table.value = c.in_ok-table.ensures in
    rw (c.no_entry.ensures, lone_entry-table unit c.in_ok-table.table.value (unread_from unit c.args.offset) table) (entry_with-empty unit c.in_ok-table.table.value (unread_from unit c.args.offset) c.in_default.ensures)

pub returns : goal.returns
returns c =
    let unit = c.args.self.now in
    let table : abbreviation_table unit.sections unit.header.abbreviations ≡ Ok c.in_ok-table.table.value = c.in_ok-table.ensures in
    let at : c.in-Some.cursor ≡ unread_from unit c.args.offset = c.in-Some.ensures in
    rw (lone_entry-table unit c.in_ok-table.table.value (unread_from unit c.args.offset) table) (rw (at, c.deref.ensures) at c.lone_entry.ensures)
