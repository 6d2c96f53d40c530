use Rattle.std.proofs.Common.{Some, Ok, Err, ap, sym, ◌∙◌}
use Rattle.std.specs.Prelude.{nat_lt, false}
use Rattle.dwc_dwarf.specs.Lists.{list_source}
use Rattle.dwc_dwarf.specs.RawLists.{raw_ranges}
use Rattle.dwc_tabs.specs.RangeLists.{place_of_list}
use Rattle.dwc_tabs.proofs.RangeLaws.{named-offset, named-index}
use Rattle.dwc_tabs.proofs.range_entries.RangeEntries.new.Goals as goal

pub returns-in-RangeRef : goal.returns-in-RangeRef
returns-in-RangeRef c =
    let u = c.args.unit.now in
    let place = c.at.ensures.place ∙ ap (λ n. place_of_list (nat_lt n 5) c.in-RangeRef.offset) c.version.ensures in
    rw c.in-RangeRef.is (named-offset u.sections u.header c.in-RangeRef.offset ∙ ap (λ p. Some (Ok p)) (sym place), c.at.ensures.left ∙ ap (raw_ranges (list_source u.sections u.header)) (sym c.at.ensures.place))

pub returns-in-Ok : goal.returns-in-Ok
returns-in-Ok c =
    let u = c.args.unit.now in
    rw c.in-RangeIndex.is (named-index u.sections u.header c.in-RangeIndex.index (Ok (place_of_list false c.in-Ok.offset)) c.in-Ok.ensures ∙ ap (λ p. Some (Ok p)) (sym c.at-in-Ok.ensures.place), c.at-in-Ok.ensures.left ∙ ap (raw_ranges (list_source u.sections u.header)) (sym c.at-in-Ok.ensures.place))

pub returns-in-Err : goal.returns-in-Err
returns-in-Err c =
    let u = c.args.unit.now in
    rw (c.in-RangeIndex.is, c.list_fault.ensures, c.offset.ensures) (named-index u.sections u.header c.in-RangeIndex.index (Err c.in-Err.flaw) c.in-Err.ensures)
