use Rattle.std.proofs.Common.{sym, refl}
use Rattle.dwc_read.proofs.EntriesLaws.{entries-table}
use Rattle.dwc_read.proofs.entries.Entries.of.Goals as goal

pub returns : goal.returns
returns c =
    let unit = c.args.unit in
    record { start = rw c.content.ensures.content (sym (entries-table unit.sections unit.header c.args.table.value c.requires)); table = refl }
