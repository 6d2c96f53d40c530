use Rattle.std.proofs.Common.{Ok, Some, option_map, ap, sym, ◌∙◌}
use Rattle.dwc_dwarf.specs.RawLists.{range_kinds}
use Rattle.dwc_tabs.specs.OpenLists.{list_entry_at}
use Rattle.dwc_tabs.specs.RangeLists.{entry_view}
use Rattle.dwc_tabs.proofs.RangeLaws.{entries_left-more, entries_left-end, entries_left-flaw}
use Rattle.dwc_tabs.proofs.range_entries.RangeEntries.next_raw.Goals as goal

pub returns-in-Ok-Some-clause-next : goal.returns-in-Ok-Some-clause-next
returns-in-Ok-Some-clause-next c =
    let l = c.self.inside.list in
    let h = ap (list_entry_at range_kinds l.in_pairs l.relocations l.address_size) (sym c.fork-ahead.ensures) ∙ c.in-Ok-Some.ensures ∙ ap (λ o. Ok (option_map entry_view o, c.range_entry.new.cursor)) c.in-Ok-Some.field-0-is ∙ ap (λ x. Ok (Some (entry_view x), c.range_entry.new.cursor)) (sym c.in-Ok-Some.entry-is) in
    rw (← c.self.view_is) (entries_left-more l c.self.invariant c.range_entry.new.cursor (entry_view c.in-Ok-Some.entry) h)

pub returns-in-Ok-None-clause-next : goal.returns-in-Ok-None-clause-next
returns-in-Ok-None-clause-next c =
    let l = c.self.inside.list in
    let h = ap (list_entry_at range_kinds l.in_pairs l.relocations l.address_size) (sym c.fork-ahead.ensures) ∙ c.in-Ok-None.ensures ∙ ap (λ o. Ok (option_map entry_view o, c.range_entry.new.cursor)) c.in-Ok-None.field-0-is in
    let e = entries_left-end l c.self.invariant c.range_entry.new.cursor h in
    rw (← c.self.view_is) (e, e)

pub returns-in-Err-clause-next : goal.returns-in-Err-clause-next
returns-in-Err-clause-next c =
    let l = c.self.inside.list in
    let h = ap (list_entry_at range_kinds l.in_pairs l.relocations l.address_size) (sym c.fork-ahead.ensures) ∙ c.in-Err.ensures in
    let e = entries_left-flaw l c.self.invariant c.in-Err.flaw h in
    rw (← c.self.view_is, c.list_fault.ensures, c.section_of_lists.ensures) (e, e)
