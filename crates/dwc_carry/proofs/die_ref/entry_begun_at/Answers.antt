use Rattle.std.proofs.Common.{◌∙◌, ap, sym, subst, option_map}
use Rattle.std.proofs.lemmas.Result.{err_from_is_err_and}
use Rattle.dwc_rules.specs.Targets.{entry_in_listing}
use Rattle.dwc_read.specs.Faults.{GivesOrFault, fault_seen}
use Rattle.dwc_read.specs.EntriesSeen.{entry_view}
use Rattle.dwc_carry.proofs.ResolvedLaws.{begun-in_listing, table-refuses}
use Rattle.dwc_carry.proofs.die_ref.entry_begun_at.Goals as goal

pub returns-in_err-entries : goal.returns-in_err-entries
returns-in_err-entries c =
    let u = c.args.unit.now in
    let p = err_from_is_err_and c.from_residual.result c.from_residual.ensures.1 in
    rw (p.1, p.2) (table-refuses u.sections u.header c.args.place (fault_seen c.in_err-entries.field-0.0) c.in_err-entries.ensures.table)

pub returns : goal.returns
returns c =
    let u = c.args.unit.now in
    let es = c.in_ok-entries.field-0 in
    subst (λ r. GivesOrFault (option_map entry_view) r c.entry_in_listing.result) (ap (entry_in_listing c.args.place) c.in_ok-entries.ensures.start ∙ sym (begun-in_listing u.sections u.header c.args.place es.table c.in_ok-entries.ensures.table)) c.entry_in_listing.ensures
