use Rattle.std.proofs.Common.{◌-◌, map, arith}
use Rattle.dwc_isa.specs.ValueLabels.{range_view}
use Rattle.dwc_map.specs.MapFile.{label_range_of}
use Rattle.dwc_map.specs.MapValues.{list_of, u32_of}
use Rattle.dwc_map.proofs.TokenShapes.{number-told, pair-told}
use Rattle.dwc_map.proofs.labels_by_tokens.read_label.Goals as goal

pub returns-clause-told : goal.returns-clause-told
returns-clause-told c =
    let start = c.begin_list.new.reader in
    let mid = c.read_number.new.reader in
    pair-told u32_of (list_of label_range_of) c.args.depth c.args.reader.now start mid c.read_ranges.new.reader c.end_list.new.reader c.in_ok-label.label (map range_view (c.in_ok-ranges.ranges).items) (omega (arith, c.requires)) c.in_ok-begin_list.ensures
    (number-told (c.args.depth - 1) start mid c.in_ok-label.label c.in_ok-label.ensures) c.in_ok-ranges.ensures.told c.in_ok-end_list.ensures
