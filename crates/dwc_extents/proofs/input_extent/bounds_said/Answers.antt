use Rattle.std.proofs.Common.{Some, ap, sym, ◌∙◌, option_map}
use Rattle.dwc_dwarf.specs.Lists.{list_source}
use Rattle.dwc_read.specs.EntriesSeen.{entry_view}
use Rattle.dwc_tabs.specs.RangeEnds.{interval_view}
use Rattle.dwc_extents.proofs.InputExtentLaws.{position-is}
use Rattle.dwc_extents.proofs.ReadExtentLaws.{bounded-sound}
use Rattle.dwc_extents.proofs.input_extent.bounds_said.Goals as goal

pub returns-in-None-clause-said : goal.returns-in-None-clause-said
returns-in-None-clause-said c =
    let u = c.args.unit.now in
    position-is (list_source u.sections u.header) (entry_view c.args.entry.now) c.in-Some.low c.in-Some.ensures (c.in-None.ensures c.in-Some.low)

pub returns-in-Ok-clause-sound : goal.returns-in-Ok-clause-sound
returns-in-Ok-clause-sound c = λ some.
    let u = c.args.unit.now in
    let low = c.in-Some.low in
    bounded-sound (list_source u.sections u.header) (entry_view c.args.entry.now) low (option_map interval_view c.in-Ok.interval) c.requires c.in-Some.ensures (ap Some (sym c.in-Ok.ensures) ∙ c.in-Some-end_said.ensures low)
