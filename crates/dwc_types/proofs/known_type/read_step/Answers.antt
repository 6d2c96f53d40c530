use Rattle.std.proofs.Common.{◌∙◌, Ok, ap, option_map, refl, sym}
use Rattle.std.proofs.lemmas.Result.{err_from_is_err_and}
use Rattle.dwc_base.specs.Cursors.{slice_bytes}
use Rattle.dwc_rules.specs.TypeNames.{name_of}
use Rattle.dwc_read.specs.EntriesSeen.{entry_view}
use Rattle.dwc_source.specs.Sources.{placed_entry}
use Rattle.dwc_types.proofs.TypeStepLaws.{derived-given, gives-none, last-given, name-given, name-refusal}
use Rattle.dwc_types.proofs.known_type.read_step.Goals as goal

pub returns-in_err-entry-clause-step : goal.returns-in_err-entry-clause-step
returns-in_err-entry-clause-step c number s f source emitted at =
    let p = err_from_is_err_and c.from_residual.result c.from_residual.ensures.1 in
    rw (p.1, p.2) (gives-none (λ name. name) (name_of s.texts f) c.in_err-entry.field-0.0 (c.in_err-entry.ensures.alike number s f source emitted at))

pub returns-in_err-name-clause-step : goal.returns-in_err-name-clause-step
returns-in_err-name-clause-step c number s f source emitted at =
    let src = c.args.source.now in
    let entry = entry_view c.in_ok-entry.entry in
    let p = err_from_is_err_and c.from_residual-in_err-name.result c.from_residual-in_err-name.ensures.1 in
    rw (p.1, p.2) (name-refusal src number s f entry source (c.in_ok-entry.ensures.alike number s f source emitted at) (option_map slice_bytes) (λ name. name) c.in_err-name.field-0.0 (c.in_err-name.ensures.name (placed_entry src entry) refl))

pub returns-in-Some-clause-step : goal.returns-in-Some-clause-step
returns-in-Some-clause-step c number s f source emitted at =
    let src = c.args.source.now in
    let entry = entry_view c.in_ok-entry.entry in
    name-given src number s f entry source (c.in_ok-entry.ensures.alike number s f source emitted at) (option_map slice_bytes) (Ok c.in_ok-name.field-0) (c.in_ok-name.ensures.name (placed_entry src entry) refl)
    ∙ ap (λ o. Ok (option_map slice_bytes o)) c.in-Some.is

pub returns-then-not-is_derived-clause-step : goal.returns-then-not-is_derived-clause-step
returns-then-not-is_derived-clause-step c number s f source emitted at =
    let src = c.args.source.now in
    let entry = entry_view c.in_ok-entry.entry in
    last-given src number s f entry source (c.in_ok-entry.ensures.alike number s f source emitted at) (c.in_ok-name.ensures.name (placed_entry src entry) refl ∙ ap (λ o. Ok (option_map slice_bytes o)) c.in_default.is) (sym c.is_derived.ensures ∙ c.if-not-is_derived.true)

pub returns-clause-step : goal.returns-clause-step
returns-clause-step c number s f source emitted at =
    let src = c.args.source.now in
    let entry = entry_view c.in_ok-entry.entry in
    derived-given src number s f entry source (c.in_ok-entry.ensures.alike number s f source emitted at) c.in_ok-entry.entry.tag c.type_of.result
    (c.in_ok-name.ensures.name (placed_entry src entry) refl ∙ ap (λ o. Ok (option_map slice_bytes o)) c.in_default.is) refl (sym c.is_derived.ensures ∙ c.if-not-is_derived.false) c.type_of.ensures
