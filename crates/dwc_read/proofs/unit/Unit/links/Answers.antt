use Rattle.std.proofs.lemmas.Result.{err_from_is_err_and}
use Rattle.dwc_base.specs.Abbreviations.{abbreviation_table}
use Rattle.dwc_read.specs.Faults.{Refuses, fault_seen}
use Rattle.dwc_read.proofs.LinkLaws.{BeginsWith-linked}
use Rattle.dwc_read.proofs.EntriesLaws.{BeginsWith-table}
use Rattle.dwc_read.proofs.unit.Unit.links.Goals as goal

pub returns-in_err-table : goal.returns-in_err-table
returns-in_err-table c =
    let p = err_from_is_err_and c.from_residual.result c.from_residual.ensures.1 in
    let unit = c.args.self.now in
    let refused : Refuses (abbreviation_table unit.sections unit.header.abbreviations) (fault_seen c.in_err-table.field-0.0) = c.in_err-table.ensures in
    rw (p.1, p.2) (BeginsWith-linked _ _ (BeginsWith-table unit.sections unit.header _ refused))
