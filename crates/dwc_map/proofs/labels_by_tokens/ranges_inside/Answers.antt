use Rattle.std.proofs.Common.{◌≡◌, Some, None, map, arith}
use Rattle.json.specs.Json.{after_end_array}
use Rattle.dwc_isa.specs.ValueLabels.{range_view}
use Rattle.dwc_map.specs.MapFile.{label_range_of}
use Rattle.dwc_map.proofs.TokenLists.{items-over, items-pushed}
use Rattle.dwc_map.proofs.labels_by_tokens.ranges_inside.Goals as goal

pub items-preserved : goal.items-preserved
items-preserved c =
    let l = c.items in
    let going : (after_end_array l.reader ≡ None) × (c.take_end_array.new.self ≡ l.reader) = grind arith in
    items-pushed label_range_of c.args.depth range_view c.args.reader.now l.reader c.take_end_array.new.self c.read_range.new.reader l.ranges.items _ c.in_ok-range.range going c.in_ok-range.ensures.told c.in_ok-range.ensures.shorter c.in_ok-push.ensures.items l.invariant

pub returns-clause-told : goal.returns-clause-told
returns-clause-told c =
    let l = c.items in
    let r = c.take_end_array.new.self in
    let over : after_end_array l.reader ≡ Some r = grind arith in
    items-over label_range_of c.args.depth c.args.reader.now l.reader r (map range_view l.ranges.items) over l.invariant
