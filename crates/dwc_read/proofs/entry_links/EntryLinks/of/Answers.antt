use Rattle.std.proofs.Common.{sym, ap}
use Rattle.dwc_read.specs.Links.{linked}
use Rattle.dwc_read.proofs.EntriesLaws.{entries-table}
use Rattle.dwc_read.proofs.entry_links.EntryLinks.of.Goals as goal

pub returns : goal.returns
returns c =
    let unit = c.args.unit in
    rw c.content.ensures.content (ap linked (sym (entries-table unit.sections unit.header c.args.table.value c.requires)))
