use Rattle.dwc_read.specs.ValuesSeen.{value_view}
use Rattle.dwc_tabs.proofs.ListedLocationLaws.{with_expression-begin}
use Rattle.dwc_tabs.proofs.locations.Locations.new.Goals as goal

pub returns : goal.returns
returns c =
    let u = c.args.unit.now in
    with_expression-begin u.sections u.header (value_view c.args.value) c.in_ok-entries.entries c.first_base-base.result c.in_ok-entries.ensures.0 c.in_ok-entries.ensures.1 c.first_base-base.ensures
