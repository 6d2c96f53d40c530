use Rattle.std.proofs.Common.{◌∙◌, map, length}
use Rattle.std.proofs.lemmas.Result.{err_from_is_err_and}
use Rattle.dwc_unit.specs.FileOrders.{looked_up}
use Rattle.dwc_write.specs.LayoutViews.{spelling_places}
use Rattle.dwc_write.specs.SpelledOutput.{unit_of}
use Rattle.dwc_write.proofs.UnitBytes.{front, header-length, info-refused, info-refused-later, unit-length, unit-clear, unit-appended, unit-result}
use Rattle.dwc_write.proofs.entries.write_unit.Goals as goal

pub finish_length-requires-clause-clear : goal.finish_length-requires-clause-clear
finish_length-requires-clause-clear c =
    let u = unit_of c.args.spelling.now.size c.args.spelling.now.lists (length c.args.tables.now.body) (spelling_places c.args.spelling.now) (map (looked_up c.args.additions.now) c.args.layout.now.order.items) in
    let headed = rw (c.place.ensures.place) at c.in_ok-write_header.ensures in
    rw (c.place-place.ensures.place) (unit-clear c.args.spelling.now.size u c.args.info.now c.write_header.new.info c.write_entries.new.info headed (rw (c.deref.ensures.value) at c.in_ok-write_entries.ensures) c.place-place.ensures.below)

pub returns-in_err-write_header : goal.returns-in_err-write_header
returns-in_err-write_header c =
    let u = unit_of c.args.spelling.now.size c.args.spelling.now.lists (length c.args.tables.now.body) (spelling_places c.args.spelling.now) (map (looked_up c.args.additions.now) c.args.layout.now.order.items) in
    let p = err_from_is_err_and c.from_residual.result c.from_residual.ensures.1 in
    let refused = rw (c.place.ensures.place) at c.in_err-write_header.ensures in
    info-refused _ _ _ _ _ _ c.args.spelling.now.size c.args.spelling.now.lists (spelling_places c.args.spelling.now) (map (looked_up c.args.additions.now) c.args.layout.now.order.items) _ p refused (header-length c.args.spelling.now.size u c.args.info.now.order)

pub returns-in_err-write_entries : goal.returns-in_err-write_entries
returns-in_err-write_entries c =
    let u = unit_of c.args.spelling.now.size c.args.spelling.now.lists (length c.args.tables.now.body) (spelling_places c.args.spelling.now) (map (looked_up c.args.additions.now) c.args.layout.now.order.items) in
    let p = err_from_is_err_and c.from_residual-in_err-write_entries.result c.from_residual-in_err-write_entries.ensures.1 in
    let headed = rw (c.place.ensures.place) at c.in_ok-write_header.ensures in
    info-refused-later _ _ _ _ c.args.info.now _ c.write_header.new.info (front c.args.info.now.order c.args.spelling.now.size u) _ c.args.spelling.now.size c.args.spelling.now.lists (spelling_places c.args.spelling.now) (map (looked_up c.args.additions.now) c.args.layout.now.order.items) _ p headed (rw (c.deref.ensures.value) at c.in_err-write_entries.ensures)
    (unit-length c.args.spelling.now.size u c.args.info.now c.write_header.new.info _ headed)

pub returns : goal.returns
returns c =
    let u = unit_of c.args.spelling.now.size c.args.spelling.now.lists (length c.args.tables.now.body) (spelling_places c.args.spelling.now) (map (looked_up c.args.additions.now) c.args.layout.now.order.items) in
    let headed = rw (c.place.ensures.place) at c.in_ok-write_header.ensures in
    let table = c.deref-3.ensures.value ∙ c.requires.table in
    let info = unit-appended c.args.spelling.now.size u c.args.info.now c.write_header.new.info c.write_entries.new.info headed (rw (c.deref.ensures.value) at c.in_ok-write_entries.ensures) c.finish_length.new.self (rw (c.place-place.ensures.place) at c.finish_length.ensures) in
    unit-result _ _ _ _ _ c.args.spelling.now.size c.args.spelling.now.lists (spelling_places c.args.spelling.now) (map (looked_up c.args.additions.now) c.args.layout.now.order.items) _ c.put_bytes.ensures table info
