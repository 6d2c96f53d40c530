use Rattle.std.proofs.Common.{Ok, refl, ap, sym, subst}
use Rattle.dwc_base.specs.Listing.{Listing}
use Rattle.dwc_dwarf.specs.Lists.{ListRefusal}
use Rattle.dwc_dwarf.specs.Trees.{Interval}
use Rattle.dwc_tabs.specs.RangeEnds.{GivesNextOf, interval_view}
use Rattle.dwc_extents.proofs.NativeRangeLaws.{native-more, native-whole}
use Rattle.dwc_extents.proofs.ranges.translated_list.Goals as goal

pub loop-begin-preserved : goal.loop-begin-preserved
loop-begin-preserved c =
    let l = c.loop-begin in
    let first = subst (λ o. GivesNextOf interval_view l.list c.next_range.new.self (Ok o)) c.in-Ok-Some.field-0-is c.in-Ok-Some.ensures in
    native-more c.args.transform.now c.args.list.now l.list l.listed l.ranges.items l.invariant (interval_view (c.in-Ok-Some.begin, c.in-Ok-Some.end)) c.next_range.new.self c.add_native.new.ranges.items first
    (c.in_ok-add_native-in-Ok-Some.ensures l.invariant.told l.invariant.ranges)

pub returns-in-Ok-None : goal.returns-in-Ok-None
returns-in-Ok-None c =
    let l = c.loop-begin in
    let last = subst (λ o. GivesNextOf interval_view l.list c.next_range.new.self (Ok o)) c.in-Ok-None.field-0-is c.in-Ok-None.ensures in
    native-whole c.args.transform.now c.args.list.now l.list l.listed l.ranges.items l.invariant _ refl refl (ap (λ (m : Listing ListRefusal Interval). m.items) last.0) (sym (ap (λ (m : Listing ListRefusal Interval). m.fault) last.0))

pub returns-in-Err : goal.returns-in-Err
returns-in-Err c =
    let l = c.loop-begin in
    let last = c.in-Err.ensures in
    native-whole c.args.transform.now c.args.list.now l.list l.listed l.ranges.items l.invariant _ refl refl (ap (λ (m : Listing ListRefusal Interval). m.items) last.0) (sym (ap (λ (m : Listing ListRefusal Interval). m.fault) last.0))
