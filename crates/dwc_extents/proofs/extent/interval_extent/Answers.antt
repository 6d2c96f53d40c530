use Rattle.std.proofs.Common.{[]}
use Rattle.dwc_extents.proofs.NativeRangeLaws.{none-said}
use Rattle.dwc_extents.proofs.NativeExtentLaws.{one-said}
use Rattle.dwc_extents.proofs.extent.interval_extent.Goals as goal

pub returns-clause-says : goal.returns-clause-says
returns-clause-says c =
    let are = c.in_ok-add_native.ensures [] (none-said c.new-ranges.result.items c.new-ranges.ensures.items) in
    λ tag. one-said c.args.transform.now tag c.args.interval (c.in-Some.begin, c.in-Some.end) c.add_native.new.ranges.items c.in-Some.is are

pub returns-clause-fits : goal.returns-clause-fits
returns-clause-fits c = (c.in_ok-add_native.ensures [] (none-said c.new-ranges.result.items c.new-ranges.ensures.items)).fit
