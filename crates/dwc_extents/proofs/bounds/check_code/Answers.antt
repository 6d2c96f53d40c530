use Rattle.std.proofs.Common.{sym, ◌∙◌}
use Rattle.std.proofs.lemmas.Result.{err_from_is_err_and}
use Rattle.dwc_dwarf.specs.Lists.{list_source}
use Rattle.dwc_read.specs.EntriesSeen.{entry_view}
use Rattle.dwc_read.specs.ValuesSeen.{value_view}
use Rattle.dwc_source.specs.Errors.{refusal_told}
use Rattle.dwc_extents.proofs.BoundLaws.{code-begins, code-extent, code-sound, code-unread}
use Rattle.dwc_extents.proofs.bounds.check_code.Goals as goal

pub returns-in_err-check_address : goal.returns-in_err-check_address
returns-in_err-check_address c = λ fs before begins seen.
    let u = c.args.unit.now in
    let p = err_from_is_err_and c.from_residual.result c.from_residual.ensures.1 in
    rw (p.1, p.2) (code-unread (list_source u.sections u.header) fs (entry_view c.args.entry.now) before (c.args.name, value_view c.args.value) (refusal_told c.in_err-check_address.field-0.0) c.in_err-check_address.ensures)

pub returns-then-begins : goal.returns-then-begins
returns-then-begins c = λ fs before begins seen.
    let u = c.args.unit.now in
    code-begins (list_source u.sections u.header) fs (entry_view c.args.entry.now) before (c.args.name, value_view c.args.value) c.in_ok-check_address.ensures (sym c.if-begins.true ∙ begins)

pub returns-then-names_no_other : goal.returns-then-names_no_other
returns-then-names_no_other c = λ fs before begins seen.
    let u = c.args.unit.now in
    let s = list_source u.sections u.header in
    let sound = c.requires.sound c.if-is_sound.true in
    code-sound s fs (entry_view c.args.entry.now) before (c.args.name, value_view c.args.value) c.in_ok-check_address.ensures sound (c.names_no_other.ensures c.if-names_no_other.true s sound)

pub returns : goal.returns
returns c = λ fs before begins seen.
    let u = c.args.unit.now in
    code-extent (list_source u.sections u.header) fs (entry_view c.args.entry.now) before (c.args.name, value_view c.args.value) c.check_extent.result c.in_ok-check_address.ensures (sym c.if-begins.false ∙ begins) (c.check_extent.ensures before seen)
