use Rattle.std.proofs.Common.{refl}
use Rattle.dwc_dwarf.specs.Lists.{list_source, ranges_of_value}
use Rattle.dwc_read.specs.ValuesSeen.{value_view}
use Rattle.dwc_extents.proofs.NativeRangeLaws.{native-refused}
use Rattle.dwc_extents.proofs.ranges.native_ranges.Goals as goal

pub returns-in-Err : goal.returns-in-Err
returns-in-Err c =
    let u = c.args.unit.now in
    native-refused c.args.transform.now (ranges_of_value (list_source u.sections u.header) c.args.offset (value_view c.args.value)) _ c.in-Err.fault refl c.new.ensures.items refl c.in-Err.ensures
