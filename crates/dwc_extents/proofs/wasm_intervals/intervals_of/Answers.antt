use Rattle.std.proofs.Common.{is_some}
use Rattle.dwc_dwarf.specs.Lists.{list_source}
use Rattle.dwc_read.specs.EntriesSeen.{entry_view}
use Rattle.dwc_read.specs.ValuesSeen.{value_view}
use Rattle.dwc_extents.proofs.ReadExtentLaws.{bounded-known, listed-known, listed-scope}
use Rattle.dwc_extents.proofs.wasm_intervals.intervals_of.Goals as goal

pub returns-in-Listed-clause-intervals : goal.returns-in-Listed-clause-intervals
returns-in-Listed-clause-intervals c =
    let u = c.args.unit.now in
    listed-scope (list_source u.sections u.header) (entry_view c.args.entry.now) c.listed_intervals.result (value_view c.in-Listed.list) c.in-Listed.ensures.said c.listed_intervals.ensures

pub returns-in-Listed-clause-sound : goal.returns-in-Listed-clause-sound
returns-in-Listed-clause-sound c =
    let u = c.args.unit.now in
    listed-known (list_source u.sections u.header) (entry_view c.args.entry.now) c.listed_intervals.result (value_view c.in-Listed.list) c.in-Listed.ensures.sound c.listed_intervals.ensures

pub returns-in-Bounded-clause-sound : goal.returns-in-Bounded-clause-sound
returns-in-Bounded-clause-sound c =
    let u = c.args.unit.now in
    bounded-known (list_source u.sections u.header) (entry_view c.args.entry.now) c.interval_alone.result (is_some c.in-Bounded.interval) c.in-Bounded.ensures.sound c.interval_alone.ensures.sound
