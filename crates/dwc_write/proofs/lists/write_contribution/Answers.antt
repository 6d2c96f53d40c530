use Rattle.std.proofs.Common.{◌++◌, map, refl, []}
use Rattle.dwc_section.specs.Writers.{appended}
use Rattle.std.proofs.lemmas.Result.{err_from_is_err_and}
use Rattle.dwc_unit.specs.FileOrders.{looked_up}
use Rattle.dwc_unit.specs.GivenUnits.{lists_of_entries}
use Rattle.dwc_unit.specs.Lists.{lists_by, lists_header}
use Rattle.dwc_section.proofs.WritesLaws.{exit-refused, first-refused}
use Rattle.dwc_write.proofs.ContributionLaws.{contribution-appended, header-within, length-clear, lists-within, room, some-there}
use Rattle.dwc_write.proofs.lists.write_contribution.Goals as goal

pub returns-in_err-write_header : goal.returns-in_err-write_header
returns-in_err-write_header c =
    let gs = map (looked_up c.args.additions.now) c.args.order.now in
    let es = lists_of_entries (lists_by c.args.kind) gs in
    let a = c.args.lists.now in
    let p = err_from_is_err_and c.from_residual.result c.from_residual.ensures.1 in
    let front = room ++ lists_header c.args.version a.order c.args.size in
    first-refused _ _ a _ _ _ _ p c.in_err-write_header.ensures (header-within c.args.version c.args.size es (some-there c.args.kind gs c.requires.there) a (appended front [] a) refl)

pub returns-in_err-put_lists : goal.returns-in_err-put_lists
returns-in_err-put_lists c =
    let gs = map (looked_up c.args.additions.now) c.args.order.now in
    let es = lists_of_entries (lists_by c.args.kind) gs in
    let a = c.args.lists.now in
    let p = err_from_is_err_and c.from_residual-in_err-put_lists.result c.from_residual-in_err-put_lists.ensures.1 in
    let less = lists-within c.args.version c.args.size es (some-there c.args.kind gs c.requires.there) a c.write_header.new.lists c.in_ok-write_header.ensures in
    exit-refused _ _ a c.write_header.new.lists _ (room ++ lists_header c.args.version a.order c.args.size) _ [] _ _ p c.in_ok-write_header.ensures c.in_err-put_lists.ensures less

pub finish_length-requires-clause-clear : goal.finish_length-requires-clause-clear
finish_length-requires-clause-clear c =
    let gs = map (looked_up c.args.additions.now) c.args.order.now in
    let es = lists_of_entries (lists_by c.args.kind) gs in
    rw (c.place-place.ensures.place)
    (length-clear c.args.version c.args.size es (some-there c.args.kind gs c.requires.there) c.args.lists.now c.write_header.new.lists c.in_ok-write_header.ensures c.put_lists.new.lists c.in_ok-put_lists.ensures c.place-place.ensures.below)

pub returns : goal.returns
returns c =
    let gs = map (looked_up c.args.additions.now) c.args.order.now in
    let es = lists_of_entries (lists_by c.args.kind) gs in
    contribution-appended c.args.version c.args.size es (some-there c.args.kind gs c.requires.there) c.args.lists.now c.write_header.new.lists c.in_ok-write_header.ensures c.put_lists.new.lists c.in_ok-put_lists.ensures c.finish_length.new.self (rw (c.place-place.ensures.place) at c.finish_length.ensures)
