use Rattle.std.proofs.Common.{ap, arith, map, length}
use Rattle.dwc_addr.specs.Runs.{recorded_view}
use Rattle.dwc_addr.proofs.StretchLaws.{stretches-few}
use Rattle.dwc_addr.proofs.shown.shown_parts.Goals as goal

pub source_tables-requires : goal.source_tables-requires
source_tables-requires c =
    let ss = c.in_ok-stretches-in-Debugger.stretches.items in
    let few = stretches-few c.args.start c.args.len (map recorded_view c.args.sources.now) ss c.in_ok-stretches-in-Debugger.ensures in
    omega (arith, few, c.requires.short, ap length c.deref.ensures.value)

pub returns-in_ok-tables-in-Debugger-clause-few : goal.returns-in_ok-tables-in-Debugger-clause-few
returns-in_ok-tables-in-Debugger-clause-few c =
    let ss = c.in_ok-stretches-in-Debugger.stretches.items in
    let few = stretches-few c.args.start c.args.len (map recorded_view c.args.sources.now) ss c.in_ok-stretches-in-Debugger.ensures in
    omega (arith, few, c.requires.short)

pub returns-in_ok-tables-in-Debugger-clause-listed :
    goal.returns-in_ok-tables-in-Debugger-clause-listed
returns-in_ok-tables-in-Debugger-clause-listed c = rw c.deref.ensures.value at c.in_ok-tables-in-Debugger.ensures
