use Rattle.dwc_rules.specs.EntryRules.{named_faults}
use Rattle.dwc_kept.specs.ReadingSeen.{reading_view}
use Rattle.dwc_kept.proofs.ReadLaws.{headers-no-fault}
use Rattle.dwc_kept.proofs.GraphLaws.{module-graph}
use Rattle.dwc_kept.proofs.walk.graph_of.Goals as goal

pub returns : goal.returns
returns c =
    let s = c.args.headers.sections in
    let all = c.args.headers.headers in
    let read = c.in_ok-reading.ensures in
    (read.0, (module-graph c.args.transform.now s all (reading_view c.in_ok-reading.field-0.reading) (headers-no-fault (named_faults s) s all read.0) c.sections.ensures.stand read.1.0, read.1.1))
