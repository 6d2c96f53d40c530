use Rattle.std.proofs.Common.{◌∙◌, ap, sym}
use Rattle.dwc_isa.specs.ToldModules.{memory_view}
use Rattle.dwc_unit.specs.GivenUnits.{new_unit}
use Rattle.dwc_carry.proofs.SyntheticBuilt.{front-dense, front-is, front-length, synthetic-built}
use Rattle.dwc_carry.proofs.synthetic_entries.synthetic_unit.Goals as goal

pub add_last-requires-clause-dense : goal.add_last-requires-clause-dense
add_last-requires-clause-dense c =
    let encoding = c.args.encoding in
    let t = c.args.texts.now in
    let m = memory_view c.args.memory in
    let u3 = c.add_context.new.unit in
    front-dense encoding t m u3 (front-is encoding t m c.in_ok-unit.unit c.set_root.new.unit c.add_first.new.unit u3 (c.in_ok-unit.ensures ∙ ap (new_unit encoding.version encoding.address_size) c.none.ensures) c.in_ok-set_root.ensures.set c.in_ok-add_first.ensures.added c.in_ok-add_context.ensures.added)

pub add_last-requires-clause-place : goal.add_last-requires-clause-place
add_last-requires-clause-place c =
    let encoding = c.args.encoding in
    let t = c.args.texts.now in
    let m = memory_view c.args.memory in
    let u3 = c.add_context.new.unit in
    front-length encoding t m u3 (front-is encoding t m c.in_ok-unit.unit c.set_root.new.unit c.add_first.new.unit u3 (c.in_ok-unit.ensures ∙ ap (new_unit encoding.version encoding.address_size) c.none.ensures) c.in_ok-set_root.ensures.set c.in_ok-add_first.ensures.added c.in_ok-add_context.ensures.added) ∙ sym c.set_place.ensures

pub returns : goal.returns
returns c =
    let encoding = c.args.encoding in
    let t = c.args.texts.now in
    let m = memory_view c.args.memory in
    let u3 = c.add_context.new.unit in
    synthetic-built encoding t m c.set_place.result u3 c.add_last.new.unit (front-is encoding t m c.in_ok-unit.unit c.set_root.new.unit c.add_first.new.unit u3 (c.in_ok-unit.ensures ∙ ap (new_unit encoding.version encoding.address_size) c.none.ensures) c.in_ok-set_root.ensures.set c.in_ok-add_first.ensures.added c.in_ok-add_context.ensures.added) c.set_place.ensures c.in_ok-add_last.ensures.added
