use Rattle.std.proofs.Common.{◌≡◌, ap, ◌∙◌, arith, [], map, length}
use Rattle.std.proofs.lemmas.Result.{err_from_is_err_and}
use Rattle.dwc_unit.specs.LineViews.{sequence_view}
use Rattle.dwc_unit.specs.SpelledLines.{line_fields_bytes, line_table_bytes, sequences_instructions}
use Rattle.dwc_section.specs.Writers.{appended}
use Rattle.dwc_write.proofs.TableLaws.{front, table-clear, table-length, table-appended}
use Rattle.dwc_section.proofs.WritesLaws.{exit-refused}
use Rattle.dwc_write.proofs.tables.write_old_table.Goals as goal

pub returns-in_err-write_sequences : goal.returns-in_err-write_sequences
returns-in_err-write_sequences c =
    let ds = c.lines.inside.directories in
    let fs = c.lines.inside.files in
    let qs = map sequence_view c.lines.inside.sequences.items in
    let a = c.args.line.now in
    let p = err_from_is_err_and c.from_residual-in_err-write_sequences.result c.from_residual-in_err-write_sequences.ensures.1 in
    let fields : c.deref.result.now ≡ line_fields_bytes ds fs = c.deref.ensures.value ∙ rw (c.clear.ensures.items) at c.in_ok-put_fields.ensures in
    let headed : c.write_header.new.line ≡ appended (front a.order (line_fields_bytes ds fs)) [] a =
    c.in_ok-write_header.ensures ∙ ap (λ o. appended (front o c.deref.result.now) [] a) c.requires.order ∙ ap (λ f. appended (front a.order f) [] a) fields in
    let long = table-length c.args.size ds fs qs a c.write_header.new.line headed in
    let all = ap (λ g. length (line_table_bytes a.order c.args.size g.directories g.files (sequences_instructions g.sequences))) c.lines.view_is in
    let refused = rw (c.deref-2.ensures.value) at c.in_err-write_sequences.ensures in
    exit-refused _ _ a c.write_header.new.line _ (front a.order (line_fields_bytes ds fs)) _ [] _ _ p headed refused (omega (arith, long, all))

pub finish_length-requires-clause-clear : goal.finish_length-requires-clause-clear
finish_length-requires-clause-clear c =
    let ds = c.lines.inside.directories in
    let fs = c.lines.inside.files in
    let qs = map sequence_view c.lines.inside.sequences.items in
    let a = c.args.line.now in
    let fields : c.deref.result.now ≡ line_fields_bytes ds fs = c.deref.ensures.value ∙ rw (c.clear.ensures.items) at c.in_ok-put_fields.ensures in
    let headed : c.write_header.new.line ≡ appended (front a.order (line_fields_bytes ds fs)) [] a =
    c.in_ok-write_header.ensures ∙ ap (λ o. appended (front o c.deref.result.now) [] a) c.requires.order ∙ ap (λ f. appended (front a.order f) [] a) fields in
    let filled = rw (c.deref-2.ensures.value) at c.in_ok-write_sequences.ensures in
    rw (c.place-place.ensures.place) (table-clear c.args.size ds fs qs a c.write_header.new.line c.write_sequences.new.line headed filled c.place-place.ensures.below)

pub returns : goal.returns
returns c =
    let ds = c.lines.inside.directories in
    let fs = c.lines.inside.files in
    let qs = map sequence_view c.lines.inside.sequences.items in
    let a = c.args.line.now in
    let fields : c.deref.result.now ≡ line_fields_bytes ds fs = c.deref.ensures.value ∙ rw (c.clear.ensures.items) at c.in_ok-put_fields.ensures in
    let headed : c.write_header.new.line ≡ appended (front a.order (line_fields_bytes ds fs)) [] a =
    c.in_ok-write_header.ensures ∙ ap (λ o. appended (front o c.deref.result.now) [] a) c.requires.order ∙ ap (λ f. appended (front a.order f) [] a) fields in
    let filled = rw (c.deref-2.ensures.value) at c.in_ok-write_sequences.ensures in
    rw (← c.lines.view_is) (table-appended c.args.size ds fs qs a c.write_header.new.line c.write_sequences.new.line headed filled c.finish_length.new.self (rw (c.place-place.ensures.place) at c.finish_length.ensures))
