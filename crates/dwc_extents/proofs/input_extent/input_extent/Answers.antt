use Rattle.std.proofs.Common.{◌∙◌}
use Rattle.dwc_dwarf.specs.Lists.{list_source}
use Rattle.dwc_read.specs.EntriesSeen.{entry_view}
use Rattle.dwc_read.specs.ValuesSeen.{value_view}
use Rattle.dwc_extents.proofs.InputExtentLaws.{listed-is, bounded-is}
use Rattle.dwc_extents.proofs.ReadExtentLaws.{listed-sound}
use Rattle.dwc_extents.proofs.input_extent.input_extent.Goals as goal

pub returns-in-Some-clause-said : goal.returns-in-Some-clause-said
returns-in-Some-clause-said c =
    let u = c.args.unit.now in
    listed-is (list_source u.sections u.header) (entry_view c.args.entry.now) (value_view c.in-Some.list) c.in-Some.ensures.list

pub returns-in-None-clause-said : goal.returns-in-None-clause-said
returns-in-None-clause-said c =
    let u = c.args.unit.now in
    c.bounds_said.ensures.said ∙ bounded-is (list_source u.sections u.header) (entry_view c.args.entry.now) c.in-None.ensures.list

pub returns-in-Some-clause-sound : goal.returns-in-Some-clause-sound
returns-in-Some-clause-sound c =
    let u = c.args.unit.now in
    listed-sound (list_source u.sections u.header) (entry_view c.args.entry.now) (value_view c.in-Some.list) c.in-Some.ensures.list
