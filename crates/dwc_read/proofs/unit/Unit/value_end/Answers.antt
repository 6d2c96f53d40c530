use Rattle.std.proofs.Common.{◌≡◌, refl, Ok}
use Rattle.dwc_base.specs.Abbreviations.{abbreviation_table}
use Rattle.dwc_dwarf.specs.ExpressionPlaces.{unit_from}
use Rattle.dwc_read.specs.Headers.{header_view}
use Rattle.dwc_read.proofs.ValueEndLaws.{entry_ends-empty, value_ends-table, value_ends-fault}
use Rattle.dwc_read.proofs.unit.Unit.value_end.Goals as goal

pub returns-in_err-unit_from-in-None : goal.returns-in_err-unit_from-in-None
returns-in_err-unit_from-in-None c =
    let unit = c.args.self.now in
    let known = c.self.inside.table.table.value in
    let table : abbreviation_table unit.sections unit.header.abbreviations ≡ Ok known = rw (← c.self.view_is) (rw c.in-None.is at c.self.invariant.1) in
    let empty = entry_ends-empty unit.sections unit.header known (unit_from unit.sections unit.header c.args.offset) c.in_err-unit_from-in-None.ensures in
    rw (c.from_residual.ensures, value_ends-table unit.sections unit.header c.args.offset known table, empty) refl

pub returns-in_ok-unit_from-in-None : goal.returns-in_ok-unit_from-in-None
returns-in_ok-unit_from-in-None c =
    let unit = c.args.self.now in
    let known = c.self.inside.table.table.value in
    let table : abbreviation_table unit.sections unit.header.abbreviations ≡ Ok known = rw (← c.self.view_is) (rw c.in-None.is at c.self.invariant.1) in
    rw (value_ends-table unit.sections unit.header c.args.offset known table) (rw (c.in_ok-unit_from-in-None.ensures, c.deref.ensures) at c.entry_end.ensures)

pub returns-in-Some : goal.returns-in-Some
returns-in-Some c =
    let inside = c.self.inside in
    let told = rw c.in-Some.is at c.self.invariant.1 in
    rw (← c.self.view_is, value_ends-fault inside.sections (header_view inside.header) c.args.offset _ told) refl
