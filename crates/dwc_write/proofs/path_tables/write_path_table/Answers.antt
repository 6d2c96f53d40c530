use Rattle.std.proofs.Common.{map}
use Rattle.std.proofs.lemmas.Result.{err_from_is_err_and}
use Rattle.dwc_unit.specs.LineViews.{sequence_view}
use Rattle.dwc_write.proofs.PathTableLaws.{table-refused, table-clear, table-appended}
use Rattle.dwc_write.proofs.path_tables.write_path_table.Goals as goal

pub returns-in_err-write_sequences : goal.returns-in_err-write_sequences
returns-in_err-write_sequences c =
    let g = c.lines.inside in
    let qs = map sequence_view g.sequences.items in
    let p = err_from_is_err_and c.from_residual-in_err-write_sequences.result c.from_residual-in_err-write_sequences.ensures.1 in
    let refused = rw (c.deref.ensures.value) at c.in_err-write_sequences.ensures in
    rw (← c.lines.view_is)
    (table-refused c.args.names.now.texts c.args.own.now g.directories g.files c.args.size qs c.args.line.now c.write_header.new.line c.in_ok-write_header.ensures c.write_sequences.new.line _ _ p refused)

pub finish_length-requires-clause-clear : goal.finish_length-requires-clause-clear
finish_length-requires-clause-clear c =
    let g = c.lines.inside in
    let qs = map sequence_view g.sequences.items in
    let filled = rw (c.deref.ensures.value) at c.in_ok-write_sequences.ensures in
    rw (c.place-place.ensures.place)
    (table-clear c.args.names.now.texts c.args.own.now g.directories g.files c.args.size qs c.args.line.now c.write_header.new.line c.in_ok-write_header.ensures c.write_sequences.new.line filled c.place-place.ensures.below)

pub returns : goal.returns
returns c =
    let g = c.lines.inside in
    let qs = map sequence_view g.sequences.items in
    let filled = rw (c.deref.ensures.value) at c.in_ok-write_sequences.ensures in
    rw (← c.lines.view_is)
    (table-appended c.args.names.now.texts c.args.own.now g.directories g.files c.args.size qs c.args.line.now c.write_header.new.line c.in_ok-write_header.ensures c.write_sequences.new.line filled c.finish_length.new.self (rw (c.place-place.ensures.place) at c.finish_length.ensures))
