use Rattle.dwc_dwarf.specs.Lists.{list_source}
use Rattle.dwc_read.specs.EntriesSeen.{entry_view}
use Rattle.dwc_read.specs.ValuesSeen.{value_view}
use Rattle.dwc_extents.specs.BoundRefusals.{interval_refusal, list_refusal}
use Rattle.dwc_extents.proofs.BoundLaws.{told-second}
use Rattle.dwc_extents.proofs.bounds.check_extent.Goals as goal

pub returns : goal.returns
returns c = λ before seen.
    let u = c.args.unit.now in
    let s = list_source u.sections u.header in
    let e = entry_view c.args.entry.now in
    let v = value_view c.args.value in
    told-second (list_refusal s e.offset (c.args.name, v)) (interval_refusal s e before (c.args.name, v)) c.check_interval.result c.in_ok-check_listed.ensures (c.check_interval.ensures before v seen)
