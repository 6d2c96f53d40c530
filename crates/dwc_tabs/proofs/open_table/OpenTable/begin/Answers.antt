use Rattle.std.proofs.Common.{ap, ◌∙◌, drop}
use Rattle.dwc_dwarf.specs.Indexed.{text_base}
use Rattle.dwc_base.specs.declared.records.Endian.{Endian}
use Rattle.dwc_tabs.specs.Headers.{source_view}
use Rattle.dwc_tabs.proofs.OpenedLaws.{answers-opened}
use Rattle.dwc_tabs.proofs.open_table.OpenTable.begin.Goals as goal

pub returns : goal.returns
returns c =
    let u = c.args.unit.now in
    let order = ap (λ s. s.texts.order) c.source_of-source.ensures in
    let place = c.in-Some.ensures ∙ ap (λ (order : Endian). record { order = order; place = c.args.offset; left = drop c.args.offset c.section-line.result.now }) order ∙ ap (λ bytes. record { order = u.sections.order; place = c.args.offset; left = drop c.args.offset bytes }) c.section-line.ensures.bytes in
    answers-opened u.sections (text_base u.sections u.header) c.args.offset (source_view c.source_of-source.result) c.address_size.result u.header.address_size c.in-Some.cursor c.open_at.result c.source_of-source.ensures c.address_size.ensures.value place c.open_at.ensures
