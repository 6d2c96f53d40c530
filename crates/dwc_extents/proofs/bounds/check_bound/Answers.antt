use Rattle.std.proofs.Common.{ℕ, ap, sym, subst}
use Rattle.std.proofs.lemmas.Result.{err_from_is_err_and}
use Rattle.dwc_rules.specs.Clones.{bound_becomes}
use Rattle.dwc_dwarf.specs.Entries.{Entry}
use Rattle.dwc_dwarf.specs.Indexed.{texts_of_unit}
use Rattle.dwc_dwarf.specs.Values.{Value}
use Rattle.dwc_read.specs.Faults.{fault_seen}
use Rattle.dwc_read.specs.ValuesSeen.{value_view}
use Rattle.dwc_extents.specs.CodeSources.{clone_rules}
use Rattle.dwc_source.specs.MadeValues.{RefusesSo}
use Rattle.dwc_extents.proofs.BoundLaws.{bound-told, bound-unread}
use Rattle.dwc_source.proofs.ErrorLaws.{told-reading}
use Rattle.dwc_extents.proofs.bounds.check_bound.Goals as goal

pub returns-in_err-check_text-clause-made : goal.returns-in_err-check_text-clause-made
returns-in_err-check_text-clause-made c = λ table knows registers s e before texts entry begins seen force.
    let src = c.args.source.now in
    let u = src.unit.now in
    let a : ℕ × Value = (c.args.name, value_view c.args.value) in
    let fault = c.in_err-check_text.field-0.0 in
    let p = err_from_is_err_and c.from_residual.result c.from_residual.ensures.1 in
    let refused = bound-unread registers src s e before a (texts_of_unit u.sections u.header) c.args.entry.now.offset texts (ap (λ (x : Entry). x.offset) entry) (fault_seen fault) (c.in_err-check_text.ensures.text table knows) in
    rw (p.1, p.2) (subst (RefusesSo (bound_becomes (clone_rules registers src s) s e before a)) (sym (told-reading fault)) refused)

pub returns-clause-made : goal.returns-clause-made
returns-clause-made c = λ table knows registers s e before texts entry begins seen force.
    let src = c.args.source.now in
    let u = src.unit.now in
    let a : ℕ × Value = (c.args.name, value_view c.args.value) in
    let read = c.in_ok-check_text.ensures.text table knows in
    bound-told registers src s e before a (texts_of_unit u.sections u.header) c.args.entry.now.offset texts (ap (λ (x : Entry). x.offset) entry) read.found c.check_said.result read.is (c.check_said.ensures registers s e before entry begins seen force)
