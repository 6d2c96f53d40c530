use Rattle.std.proofs.Common.{◌-◌}
use Rattle.dwc_isa.specs.ValueLabels.{place_view}
use Rattle.dwc_map.proofs.TokenLabels.{range-told}
use Rattle.dwc_map.proofs.TokenShapes.{number-told}
use Rattle.dwc_map.proofs.labels_by_tokens.read_range.Goals as goal

pub returns-clause-told : goal.returns-clause-told
returns-clause-told c =
    let d = c.args.depth - 1 in
    let t1 = c.begin_list.new.reader in
    let t2 = c.read_number.new.reader in
    let t3 = c.read_number-2.new.reader in
    let t4 = c.read_place.new.reader in
    range-told c.args.depth c.args.reader.now t1 t2 t3 t4 c.end_list.new.reader c.in_ok-start.start c.in_ok-end.end (place_view c.in_ok-loc.loc) c.requires c.in_ok-begin_list.ensures
    (number-told d t1 t2 c.in_ok-start.start c.in_ok-start.ensures) (number-told d t2 t3 c.in_ok-end.end c.in_ok-end.ensures) (c.in_ok-loc.ensures.told d) c.in_ok-end_list.ensures
