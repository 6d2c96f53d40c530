use Rattle.std.proofs.Common.{map, arith, ◌-◌}
use Rattle.dwc_isa.specs.ValueLabels.{range_view}
use Rattle.dwc_map.specs.ByTokens.{Tells, TellsItems}
use Rattle.dwc_map.specs.MapFile.{label_range_of}
use Rattle.dwc_map.specs.MapValues.{list_of}
use Rattle.dwc_map.proofs.TokenLists.{if-ok, list-told}
use Rattle.dwc_map.proofs.labels_by_tokens.read_ranges.Goals as goal

pub returns-clause-told : goal.returns-clause-told
returns-clause-told c =
    let d = c.args.depth in
    let start = c.begin_list.new.reader in
    let rest = c.ranges_inside.new.reader in
    if-ok (λ xs. TellsItems (d - 1) label_range_of start (map range_view xs.items) rest) (λ xs. Tells d (list_of label_range_of) c.args.reader.now (map range_view xs.items) rest) c.ranges_inside.result
    (λ xs read. list-told label_range_of d c.args.reader.now start rest (map range_view xs.items) (omega (arith, c.requires)) c.in_ok-begin_list.ensures read) c.ranges_inside.ensures.told
