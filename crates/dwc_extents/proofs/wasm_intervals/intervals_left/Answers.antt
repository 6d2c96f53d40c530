use Rattle.std.proofs.Common.{Ok, refl, ap, subst}
use Rattle.dwc_base.specs.Listing.{Listing}
use Rattle.dwc_dwarf.specs.Lists.{ListRefusal}
use Rattle.dwc_dwarf.specs.Trees.{Interval}
use Rattle.dwc_tabs.specs.RangeEnds.{GivesNextOf, interval_view}
use Rattle.dwc_extents.proofs.ReadExtentLaws.{read-begin, read-cut, read-more, read-whole}
use Rattle.dwc_extents.proofs.wasm_intervals.intervals_left.Goals as goal

pub loop-begin-init : goal.loop-begin-init
loop-begin-init c = read-begin c.args.list.now _ c.new-intervals.ensures.items

pub loop-begin-preserved : goal.loop-begin-preserved
loop-begin-preserved c =
    let l = c.loop-begin in
    let first = subst (λ o. GivesNextOf interval_view l.list c.next_range.new.self (Ok o)) c.in-Ok-Some.field-0-is c.in-Ok-Some.ensures in
    read-more c.args.list.now l.list l.intervals.items l.invariant (interval_view (c.in-Ok-Some.begin, c.in-Ok-Some.end)) c.next_range.new.self c.add_interval.new.intervals.items first c.in_ok-add_interval-in-Ok-Some.ensures

pub returns-in-Ok-None : goal.returns-in-Ok-None
returns-in-Ok-None c =
    let l = c.loop-begin in
    let last = subst (λ o. GivesNextOf interval_view l.list c.next_range.new.self (Ok o)) c.in-Ok-None.field-0-is c.in-Ok-None.ensures in
    read-whole c.args.list.now l.list l.intervals.items l.invariant _ refl (ap (λ (m : Listing ListRefusal Interval). m.items) last.0) (λ yes. ap (λ (m : Listing ListRefusal Interval). m.fault) last.0)

pub returns-in-Err : goal.returns-in-Err
returns-in-Err c =
    let l = c.loop-begin in
    read-cut c.args.list.now l.list l.intervals.items l.invariant _ refl (ap (λ (m : Listing ListRefusal Interval). m.items) c.in-Err.ensures.0) refl
