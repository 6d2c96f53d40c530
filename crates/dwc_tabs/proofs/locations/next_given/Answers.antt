use Rattle.std.proofs.Common.{Some, Ok, option_map, ap, sym, ◌∙◌, subst}
use Rattle.dwc_dwarf.specs.Lists.{list_source}
use Rattle.dwc_tabs.specs.OpenLists.{told_at_start}
use Rattle.dwc_tabs.specs.RangeLists.{GivesNextRead}
use Rattle.dwc_tabs.specs.RangeEnds.{given_at, interval_view, refusal_view}
use Rattle.dwc_tabs.specs.LocationLists.{location_view}
use Rattle.dwc_tabs.specs.Locations.{locations_given}
use Rattle.dwc_tabs.proofs.ListedLocationLaws.{with_expression-more, with_expression-refused, with_expression-end, with_expression-told}
use Rattle.dwc_tabs.proofs.RangeEndLaws.{refuses-again}
use Rattle.dwc_tabs.proofs.locations.next_given.Goals as goal

pub returns-in-Ok : goal.returns-in-Ok
returns-in-Ok c =
    let u = c.args.unit.now in
    let x = location_view c.in-Ok-Some.entry in
    let left = subst (λ o. GivesNextRead location_view c.args.entries.now.left c.next_raw.new.self.left (Ok o)) (c.in-Ok-Some.field-0-is ∙ ap Some (sym c.in-Ok-Some.entry-is)) c.in-Ok-Some.ensures.next in
    let gives = ap (λ t. given_at (list_source u.sections u.header) (told_at_start t) c.args.base.now x.says) (sym c.start-start.ensures) ∙ c.in-Ok.ensures in
    rw c.with_expression.ensures (with_expression-more u.sections u.header c.args.entries.now c.args.base.now c.next_raw.new.self x (option_map interval_view c.in-Ok.given.0) c.in-Ok.given.1 c.in-Ok-Some.ensures.place left gives)

pub returns-in-Err-range_given : goal.returns-in-Err-range_given
returns-in-Err-range_given c =
    let u = c.args.unit.now in
    let x = location_view c.in-Ok-Some.entry in
    let left = subst (λ o. GivesNextRead location_view c.args.entries.now.left c.next_raw.new.self.left (Ok o)) (c.in-Ok-Some.field-0-is ∙ ap Some (sym c.in-Ok-Some.entry-is)) c.in-Ok-Some.ensures.next in
    let gives = ap (λ t. given_at (list_source u.sections u.header) (told_at_start t) c.args.base.now x.says) (sym c.start-start.ensures) ∙ c.in-Err-range_given.ensures in
    let r = with_expression-refused u.sections u.header c.args.entries.now c.args.base.now c.next_raw.new.self.left x (refusal_view c.in-Err-range_given.refusal) left gives in
    (r, ap (λ v. locations_given u.sections u.header v c.args.base.now) c.again-before.ensures ∙ r)

pub returns-in-Ok-None : goal.returns-in-Ok-None
returns-in-Ok-None c =
    let u = c.args.unit.now in
    let none = subst (λ o. GivesNextRead location_view c.args.entries.now.left c.next_raw.new.self.left (Ok o)) c.in-Ok-None.field-0-is c.in-Ok-None.ensures.next in (
      with_expression-end u.sections u.header c.args.entries.now c.args.base.now none.0,
      with_expression-end u.sections u.header c.next_raw.new.self c.args.base.now none.1,
    )

pub returns-in-Err : goal.returns-in-Err
returns-in-Err c =
    let u = c.args.unit.now in
    let refuses = c.in-Err.ensures.next in
    let again = refuses-again c.args.entries.now.left c.next_raw.new.self.left _ refuses in (
      with_expression-told u.sections u.header c.args.entries.now c.args.base.now c.next_raw.new.self.left c.in-Err.fault (refusal_view c.told.result) refuses c.told.ensures,
      with_expression-told u.sections u.header c.next_raw.new.self c.args.base.now c.next_raw.new.self.left c.in-Err.fault (refusal_view c.told.result) again c.told.ensures,
    )
