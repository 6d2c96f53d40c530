use Rattle.std.proofs.Common.{ap, sym, ◌∙◌, option_map, is_some}
use Rattle.std.proofs.lemmas.Result.{err_from_is_err_and}
use Rattle.dwc_base.specs.Cursors.{slice_bytes}
use Rattle.dwc_read.specs.Faults.{fault_seen}
use Rattle.dwc_read.specs.ValuesSeen.{value_view}
use Rattle.dwc_source.proofs.KnownLaws.{known-read, read-placed, unplaced-told}
use Rattle.dwc_source.proofs.text.check_named.Goals as goal

pub returns-in_err-place-clause-text : goal.returns-in_err-place-clause-text
returns-in_err-place-clause-text c = λ texts knows.
    let u = c.args.unit.now in
    let p = err_from_is_err_and c.from_residual.result c.from_residual.ensures.1 in
    rw (p.1, p.2) (unplaced-told u.sections u.header (value_view c.args.value) c.args.offset (fault_seen c.in_err-place.field-0.0) c.in_err-place.ensures.place)

pub returns-then-is_some-clause-text : goal.returns-then-is_some-clause-text
returns-then-is_some-clause-text c = λ texts knows.
    let u = c.args.unit.now in
    known-read u.sections u.header (value_view c.args.value) c.args.offset texts c.args.known.now c.in_ok-place.place knows c.in_ok-place.ensures.place (ap is_some (sym c.find.ensures) ∙ (sym c.is_some.ensures ∙ c.if-is_some.true))

pub returns-in_err-note-clause-known : goal.returns-in_err-note-clause-known
returns-in_err-note-clause-known c = λ texts knows.
    let u = c.args.unit.now in
    c.note.ensures u.sections texts knows (read-placed u.sections u.header (value_view c.args.value) c.args.offset texts c.in_ok-place.place (option_map slice_bytes c.in_ok-text_of.field-0) c.in_ok-place.ensures.place c.in_ok-text_of.ensures.text)

pub returns-clause-known : goal.returns-clause-known
returns-clause-known c = λ texts knows.
    let u = c.args.unit.now in
    c.note.ensures u.sections texts knows (read-placed u.sections u.header (value_view c.args.value) c.args.offset texts c.in_ok-place.place (option_map slice_bytes c.in_ok-text_of.field-0) c.in_ok-place.ensures.place c.in_ok-text_of.ensures.text)
