use Rattle.std.proofs.Common.{Some, Ok, Err, ap, sym, ◌∙◌}
use Rattle.std.specs.Prelude.{nat_lt, false}
use Rattle.dwc_dwarf.specs.Lists.{list_source}
use Rattle.dwc_dwarf.specs.RawLists.{raw_locations}
use Rattle.dwc_tabs.specs.LocationLists.{place_of_locations}
use Rattle.dwc_tabs.proofs.LocationLaws.{named-offset, named-index}
use Rattle.dwc_tabs.proofs.location_entries.LocationEntries.new.Goals as goal

pub returns-in-LocRef : goal.returns-in-LocRef
returns-in-LocRef c =
    let u = c.args.unit.now in
    let place = c.at.ensures.place ∙ ap (λ n. place_of_locations (nat_lt n 5) c.in-LocRef.offset) c.version.ensures in
    rw c.in-LocRef.is (named-offset u.sections u.header c.in-LocRef.offset ∙ ap (λ p. Some (Ok p)) (sym place), c.at.ensures.left ∙ ap (raw_locations (list_source u.sections u.header)) (sym c.at.ensures.place))

pub returns-in-Ok : goal.returns-in-Ok
returns-in-Ok c =
    let u = c.args.unit.now in
    rw c.in-LocIndex.is (named-index u.sections u.header c.in-LocIndex.index (Ok (place_of_locations false c.in-Ok.offset)) c.in-Ok.ensures ∙ ap (λ p. Some (Ok p)) (sym c.at-in-Ok.ensures.place), c.at-in-Ok.ensures.left ∙ ap (raw_locations (list_source u.sections u.header)) (sym c.at-in-Ok.ensures.place))

pub returns-in-Err : goal.returns-in-Err
returns-in-Err c =
    let u = c.args.unit.now in
    rw (c.in-LocIndex.is, c.list_fault.ensures, c.offset.ensures) (named-index u.sections u.header c.in-LocIndex.index (Err c.in-Err.flaw) c.in-Err.ensures)
