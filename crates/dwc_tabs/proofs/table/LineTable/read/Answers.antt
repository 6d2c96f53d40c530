use Rattle.std.proofs.Common.{ap, ◌∙◌, subst}
use Rattle.dwc_base.specs.declared.section_name.SectionName.TheVariants.{Line}
use Rattle.dwc_dwarf.specs.Indexed.{text_base}
use Rattle.dwc_dwarf.specs.LineHeaders.{line_source}
use Rattle.dwc_tabs.specs.Faults.{AnswersTable}
use Rattle.dwc_tabs.specs.Tables.{table_in}
use Rattle.dwc_tabs.proofs.TableLaws.{line_table-in}
use Rattle.dwc_tabs.proofs.table.LineTable.read.Goals as goal

pub returns : goal.returns
returns c =
    let s = c.args.unit.now.sections in
    let h = c.args.unit.now.header in
    let same =
    ap (λ source. table_in source c.section-line.result.now c.address_size.result c.args.offset) c.source_of-source.ensures
    ∙ ap (λ line. table_in (line_source s (text_base s h)) line c.address_size.result c.args.offset) c.section-line.ensures.bytes
    ∙ ap (λ size. table_in (line_source s (text_base s h)) (s.bytes Line) size c.args.offset) c.address_size.ensures.value
    ∙ line_table-in s h.address_size (text_base s h) c.args.offset in
    subst (λ read. AnswersTable c.args.offset read c.read_at.result) same c.read_at.ensures
