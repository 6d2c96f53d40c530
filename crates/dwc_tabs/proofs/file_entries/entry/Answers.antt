use Rattle.std.proofs.Common.{◌∙◌, sym, arith}
use Rattle.std.proofs.lemmas.Result.{err_from_is_err_and}
use Rattle.dwc_tabs.specs.declared.file_entries.EntryFormat.{EntryFormat}
use Rattle.dwc_tabs.specs.Headers.{file_view, source_view}
use Rattle.dwc_tabs.proofs.EntryLaws.{fields-more, fields-flaw, fields-end}
use Rattle.dwc_tabs.proofs.file_entries.entry.Goals as goal

abbrev none : EntryFormat
none = record { content = 0; form = 0 }

pub returns-in_err-entry : goal.returns-in_err-entry
returns-in_err-entry c =
    let p = err_from_is_err_and c.from_residual.result c.from_residual.ensures.1 in
    let source = source_view c.args.source.now in
    let flaw = fields-flaw source c.args.address_size c.args.looked_up c.args.formats.now c.loop-format.format-index none (file_view c.loop-format.entry) c.loop-format.cursor _ (omega arith) c.in_err-entry.ensures in
    rw (p.1, p.2) (sym c.loop-format.invariant ∙ flaw)

pub loop-format-preserved : goal.loop-format-preserved
loop-format-preserved c =
    let source = source_view c.args.source.now in
    let more = fields-more source c.args.address_size c.args.looked_up c.args.formats.now c.loop-format.format-index none (file_view c.loop-format.entry) c.loop-format.cursor _ _ (omega arith) c.in_ok-entry.ensures in
    sym more ∙ c.loop-format.invariant

pub returns : goal.returns
returns c =
    let source = source_view c.args.source.now in
    sym c.loop-format.invariant ∙ fields-end source c.args.address_size c.args.looked_up c.args.formats.now c.loop-format.format-index (file_view c.loop-format.entry) c.loop-format.cursor (omega arith)
