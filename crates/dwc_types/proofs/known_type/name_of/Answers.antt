use Rattle.std.proofs.Common.{◌∙◌, Ok, true, false, ap, option_map, sym}
use Rattle.dwc_base.specs.declared.constants.TheConstants.{DW_AT_name}
use Rattle.dwc_base.specs.declared.section_name.SectionName.TheVariants.{Info}
use Rattle.dwc_base.specs.declared.faults.What.TheVariants.{Text}
use Rattle.dwc_base.specs.Cursors.{slice_bytes}
use Rattle.dwc_dwarf.specs.Entries.{Entry, attribute}
use Rattle.dwc_dwarf.specs.Indexed.{texts_of_unit}
use Rattle.dwc_base.specs.Sections.{reported}
use Rattle.dwc_dwarf.specs.Texts.{text_named}
use Rattle.dwc_rules.specs.TypeNames.{name_of}
use Rattle.dwc_dwarf.proofs.ReadValuesEntries.{attribute-read}
use Rattle.dwc_read.specs.EntriesSeen.{entry_view}
use Rattle.dwc_read.specs.ValuesSeen.{value_view}
use Rattle.dwc_types.proofs.ChainNameLaws.{name-is, name-refused}
use Rattle.dwc_source.proofs.TextLaws.{reported-text-read}
use Rattle.dwc_types.proofs.known_type.name_of.Goals as goal

pub returns-then-is_utf8-clause-name : goal.returns-then-is_utf8-clause-name
returns-then-is_utf8-clause-name c = λ e is.
    let u = c.args.source.now.unit.now in
    let at = ap (attribute DW_AT_name) is ∙ sym c.attr.ensures ∙ ap (option_map value_view) c.in-Some.is in
    let text = c.in_ok-text.ensures.text ∙ ap (λ o. Ok (option_map slice_bytes o)) c.in-Some-2.is in
    let read = ap (λ (x : Entry). reported Text Info x.offset (text_named (texts_of_unit u.sections u.header) (value_view c.in-Some.value))) is ∙ text in
    name-is (texts_of_unit u.sections u.header) e (value_view c.in-Some.value) c.in-Some-2.text.now true at read (sym c.is_utf8.ensures ∙ c.if-is_utf8.true)

pub returns-then-is_utf8-clause-text : goal.returns-then-is_utf8-clause-text
returns-then-is_utf8-clause-text c = λ read.
    let u = c.args.source.now.unit.now in
    let e = entry_view c.args.entry.now in
    let at = sym c.attr.ensures ∙ ap (option_map value_view) c.in-Some.is in
    let text = c.in_ok-text.ensures.text ∙ ap (λ o. Ok (option_map slice_bytes o)) c.in-Some-2.is in
    reported-text-read (texts_of_unit u.sections u.header) DW_AT_name e.offset (value_view c.in-Some.value) c.in-Some-2.text.now (attribute-read DW_AT_name e (value_view c.in-Some.value) read at) text

pub returns-clause-name : goal.returns-clause-name
returns-clause-name c = λ e is.
    let u = c.args.source.now.unit.now in
    let at = ap (attribute DW_AT_name) is ∙ sym c.attr.ensures ∙ ap (option_map value_view) c.in-Some.is in
    let text = c.in_ok-text.ensures.text ∙ ap (λ o. Ok (option_map slice_bytes o)) c.in-Some-2.is in
    let read = ap (λ (x : Entry). reported Text Info x.offset (text_named (texts_of_unit u.sections u.header) (value_view c.in-Some.value))) is ∙ text in
    name-refused slice_bytes (name_of (texts_of_unit u.sections u.header) e) e c.args.entry.now.offset (ap (λ (x : Entry). x.offset) is)
    (name-is (texts_of_unit u.sections u.header) e (value_view c.in-Some.value) c.in-Some-2.text.now false at read (sym c.is_utf8.ensures ∙ c.if-is_utf8.false))
