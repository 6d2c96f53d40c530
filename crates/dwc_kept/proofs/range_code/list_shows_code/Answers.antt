use Rattle.std.proofs.Common.{ap, sym, ◌∙◌}
use Rattle.dwc_base.specs.declared.constants.TheConstants.{DW_AT_low_pc}
use Rattle.dwc_dwarf.specs.Entries.{attribute}
use Rattle.dwc_rules.specs.RangeKept.{base_beside}
use Rattle.dwc_read.specs.EntriesSeen.{entry_view}
use Rattle.dwc_read.specs.ValuesSeen.{value_view}
use Rattle.dwc_kept.proofs.RangeCodeLaws.{list-none, list-answers}
use Rattle.dwc_kept.proofs.range_code.list_shows_code.Goals as goal

pub returns-then-not-is_range_list-clause-shows : goal.returns-then-not-is_range_list-clause-shows
returns-then-not-is_range_list-clause-shows c =
    let u = c.args.unit.now in
    let e = entry_view c.args.entry.now in
    list-none u.sections u.header (value_view c.args.value) c.args.transform.now (attribute DW_AT_low_pc e) e.offset (sym c.is_range_list.ensures ∙ c.if-not-is_range_list.true)

pub returns-in-Ok-clause-shows : goal.returns-in-Ok-clause-shows
returns-in-Ok-clause-shows c =
    let u = c.args.unit.now in
    let e = entry_view c.args.entry.now in
    list-answers u.sections u.header (value_view c.args.value) c.args.transform.now (attribute DW_AT_low_pc e) e.offset c.whole_list_shows_code.result c.section-section.result c.offset-offset.result c.in-Ok.entries
    c.base_beside-base.result (sym c.is_range_list.ensures ∙ c.if-not-is_range_list.false) c.section-section.ensures c.offset-offset.ensures c.in-Ok.ensures.0 c.in-Ok.ensures.1 (c.base_beside-base.ensures ∙ ap (base_beside c.args.transform.now) c.attr.ensures) c.whole_list_shows_code.ensures.shows
