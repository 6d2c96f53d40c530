use Rattle.std.proofs.Common.{ap, sym, ◌∙◌, option_map}
use Rattle.std.proofs.lemmas.Result.{err_from_is_err_and}
use Rattle.dwc_rules.specs.Refusals.{of_place}
use Rattle.dwc_read.specs.EntriesSeen.{entry_view}
use Rattle.dwc_read.specs.Faults.{fault_seen}
use Rattle.dwc_source.specs.Sources.{placed_entry}
use Rattle.dwc_types.specs.TypeChains.{type_view}
use Rattle.dwc_source.proofs.ErrorLaws.{told-reading}
use Rattle.dwc_clone.proofs.ParameterLaws.{pointer-read, type-readable}
use Rattle.dwc_clone.proofs.object_pointer.goes_to_pointer.Goals as goal

pub returns-in_err-named : goal.returns-in_err-named
returns-in_err-named c = λ number s source emitted.
    let p = err_from_is_err_and c.from_residual.result c.from_residual.ensures.1 in
    let found = sym c.type_of.ensures ∙ ap (option_map type_view) c.in-Some.is in
    rw (p.1, p.2) (told-reading c.in_err-named.field-0.0 ∙ ap (option_map of_place) (type-readable c.args.source.now number s source (placed_entry c.args.source.now (entry_view c.args.entry.now)) emitted (type_view c.in-Some.named) (fault_seen c.in_err-named.field-0.0) found c.in_err-named.ensures))

pub returns : goal.returns
returns c = λ number s source emitted.
    let found = sym c.type_of.ensures ∙ ap (option_map type_view) c.in-Some.is in
    pointer-read c.args.source.now number s source (placed_entry c.args.source.now (entry_view c.args.entry.now)) emitted (type_view c.in-Some.named) (entry_view c.in_ok-named.named) found c.in_ok-named.ensures
