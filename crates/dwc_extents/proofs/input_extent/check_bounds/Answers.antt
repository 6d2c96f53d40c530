use Rattle.dwc_dwarf.specs.Lists.{list_source}
use Rattle.dwc_read.specs.EntriesSeen.{entry_view}
use Rattle.dwc_extents.proofs.InputExtentLaws.{unrefused-alone}
use Rattle.dwc_extents.proofs.input_extent.check_bounds.Goals as goal

pub returns-in-None : goal.returns-in-None
returns-in-None c =
    let u = c.args.unit.now in
    unrefused-alone (list_source u.sections u.header) (entry_view c.args.entry.now) c.in-Some.low c.in-Some.ensures (c.in-None.ensures c.in-Some.low)
