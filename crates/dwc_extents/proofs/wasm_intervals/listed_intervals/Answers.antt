use Rattle.dwc_dwarf.specs.Lists.{list_source, ranges_of_value}
use Rattle.dwc_read.specs.ValuesSeen.{value_view}
use Rattle.dwc_extents.proofs.ReadExtentLaws.{read-none}
use Rattle.dwc_extents.proofs.wasm_intervals.listed_intervals.Goals as goal

pub returns-in-Err : goal.returns-in-Err
returns-in-Err c =
    let u = c.args.unit.now in
    read-none (ranges_of_value (list_source u.sections u.header) c.args.offset (value_view c.args.value)) _ c.no_intervals.result c.in-Err.ensures c.no_intervals.ensures.none c.no_intervals.ensures.unsound
