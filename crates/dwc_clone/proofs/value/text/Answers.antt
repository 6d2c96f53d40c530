use Rattle.std.proofs.Common.{ap, subst, sym, ◌∙◌, Some, Ok, option_map}
use Rattle.std.proofs.lemmas.Result.{err_from_is_err_and}
use Rattle.dwc_base.specs.Cursors.{slice_bytes}
use Rattle.dwc_dwarf.specs.Indexed.{texts_of_unit}
use Rattle.dwc_rules.specs.Refusals.{of_place}
use Rattle.dwc_rules.specs.Drafts.{done}
use Rattle.dwc_dwarf.specs.Trees as Trees
use Rattle.dwc_rules.specs.Clones.{text_drafted}
use Rattle.dwc_read.specs.Faults.{fault_seen}
use Rattle.dwc_read.specs.ValuesSeen.{value_view}
use Rattle.dwc_source.specs.MadeValues.{Grows}
use Rattle.dwc_source.proofs.ErrorLaws.{told-reading}
use Rattle.dwc_source.proofs.TextLaws.{added, reported-text-read, text-says}
use Rattle.dwc_source.proofs.KnownLaws.{added-known, known-says, unplaced-refused}
use Rattle.dwc_clone.proofs.value.text.Goals as goal

pub returns-in_err-place-clause-made : goal.returns-in_err-place-clause-made
returns-in_err-place-clause-made c = λ places number.
    let u = c.args.source.now.unit.now in
    let p = err_from_is_err_and c.from_residual.result c.from_residual.ensures.1 in
    rw (p.1, p.2, told-reading c.in_err-place.field-0.0) (unplaced-refused u.sections u.header (value_view c.args.value) c.args.offset (fault_seen c.in_err-place.field-0.0) c.in_err-place.ensures.place)

pub returns-in-Some-Some-clause-made : goal.returns-in-Some-Some-clause-made
returns-in-Some-Some-clause-made c = λ places number.
    let u = c.args.source.now.unit.now in
    known-says u.sections u.header (value_view c.args.value) c.args.offset places number c.args.name c.args.strings.now c.args.known.now c.in_ok-place.place c.in-Some-Some.id c.requires.known c.in_ok-place.ensures.place (ap (λ o. Some o) (sym c.in-Some-Some.field-0-is) ∙ (sym c.in-Some-Some.is ∙ c.find.ensures))

pub add-requires : goal.add-requires
add-requires c =
    let u = c.args.source.now.unit.now in
    reported-text-read (texts_of_unit u.sections u.header) c.args.name c.args.offset (value_view c.args.value) c.in-Some.text.now c.requires.read (c.in_ok-text.ensures.text ∙ ap (λ o. Ok (option_map slice_bytes o)) c.in-Some.is)

pub returns-in_err-note-clause-known : goal.returns-in_err-note-clause-known
returns-in_err-note-clause-known c =
    let u = c.args.source.now.unit.now in
    let read = c.in_ok-text.ensures.text ∙ ap (λ o. Ok (option_map slice_bytes o)) c.in-Some.is in
    let known = added-known u.sections u.header (value_view c.args.value) c.args.offset c.args.strings.now c.add.new.self c.args.known.now c.in-Some.text.now c.in-Ok.id c.in_ok-place.place c.requires.known c.in-Ok.ensures.ok c.in-Ok.ensures.id c.in_ok-place.ensures.place read in
    c.note.ensures u.sections c.add.new.self known.0 known.1

pub returns-in_err-note-clause-grows : goal.returns-in_err-note-clause-grows
returns-in_err-note-clause-grows c = subst (Grows c.args.strings.now) (sym c.in-Ok.ensures.ok) (added c.in-Some.text.now c.args.strings.now).grows

pub returns-clause-grows : goal.returns-clause-grows
returns-clause-grows c = subst (Grows c.args.strings.now) (sym c.in-Ok.ensures.ok) (added c.in-Some.text.now c.args.strings.now).grows

pub returns-clause-made : goal.returns-clause-made
returns-clause-made c = λ places number. record {
  drafted = Some (done (Trees.text c.in-Some.text.now));
  is = ap (text_drafted of_place) (c.in_ok-text.ensures.text ∙ ap (λ o. Ok (option_map slice_bytes o)) c.in-Some.is);
  made = text-says places number c.args.name c.args.strings.now c.add.new.self c.in-Some.text.now c.in-Ok.id c.in-Ok.ensures.ok c.in-Ok.ensures.id;
}

pub returns-clause-known : goal.returns-clause-known
returns-clause-known c =
    let u = c.args.source.now.unit.now in
    let read = c.in_ok-text.ensures.text ∙ ap (λ o. Ok (option_map slice_bytes o)) c.in-Some.is in
    let known = added-known u.sections u.header (value_view c.args.value) c.args.offset c.args.strings.now c.add.new.self c.args.known.now c.in-Some.text.now c.in-Ok.id c.in_ok-place.place c.requires.known c.in-Ok.ensures.ok c.in-Ok.ensures.id c.in_ok-place.ensures.place read in
    c.note.ensures u.sections c.add.new.self known.0 known.1
