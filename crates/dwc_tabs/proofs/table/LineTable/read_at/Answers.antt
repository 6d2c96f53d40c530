use Rattle.std.proofs.Common.{◌≡◌, ◌<◌, length, drop, [], refl, sym, ap, ◌∙◌, arith, subst, Err}
use Rattle.std.proofs.lemmas.List.{drop_all}
use Rattle.dwc_base.specs.declared.faults.Flaw.TheVariants.{EndsEarly}
use Rattle.dwc_base.specs.declared.faults.What.TheVariants.{LineTable as LineTableRead}
use Rattle.dwc_base.specs.declared.section_name.SectionName.TheVariants.{Line}
use Rattle.dwc_base.specs.Sections.{reported}
use Rattle.dwc_tabs.specs.Tables.{table_at, ReadsTable}
use Rattle.dwc_tabs.specs.Headers.{source_view}
use Rattle.dwc_tabs.proofs.TableLaws.{table_at-end, answers-flaw}
use Rattle.dwc_tabs.proofs.table.LineTable.read_at.Goals as goal

pub returns-in_default : goal.returns-in_default
returns-in_default c =
    let source = source_view c.args.source in
    let line = c.args.line.now in
    let short : length line < c.args.offset = c.in_default.ensures in
    let none : drop c.args.offset line ≡ [] = drop_all c.args.offset line (omega arith) in
    let read : table_at source c.args.address_size (record { order = source.texts.order; place = c.args.offset; left = drop c.args.offset line }) ≡ Err EndsEarly = ap (λ left. table_at source c.args.address_size (record { order = source.texts.order; place = c.args.offset; left = left })) none ∙ table_at-end source c.args.address_size c.args.offset in
    answers-flaw source line c.args.address_size c.args.offset c.flawed.result EndsEarly c.flawed.ensures read

pub returns-in-Err-Flawed : goal.returns-in-Err-Flawed
returns-in-Err-Flawed c =
    let source = source_view c.args.source in
    let fails = subst (λ e. ReadsTable (table_at source c.args.address_size c.in-Some.cursor) (Err e)) c.in-Err-Flawed.field-0-is c.in-Err-Flawed.ensures in
    let read = ap (table_at source c.args.address_size) (sym c.in-Some.ensures) ∙ fails in
    answers-flaw source c.args.line.now c.args.address_size c.args.offset c.flawed-in-Err-Flawed.result c.in-Err-Flawed.flaw c.flawed-in-Err-Flawed.ensures read

pub returns-then-has_all_files : goal.returns-then-has_all_files
returns-then-has_all_files c =
    let read = ap (table_at (source_view c.args.source) c.args.address_size) (sym c.in-Some.ensures) ∙ c.in-Ok.ensures.0 in (
      ap (reported LineTableRead Line c.args.offset) read,
      sym c.has_all_files.ensures ∙ c.if-has_all_files.true,
    )

pub returns : goal.returns
returns c =
    let read = ap (table_at (source_view c.args.source) c.args.address_size) (sym c.in-Some.ensures) ∙ c.in-Ok.ensures.0 in (
      record { table = c.in-Ok.table; is_read = ap (reported LineTableRead Line c.args.offset) read; lacks = sym c.has_all_files.ensures ∙ c.if-has_all_files.false },
      refl,
    )
