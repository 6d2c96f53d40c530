use Rattle.std.proofs.Common.{map}
use Rattle.dwc_unit.specs.Lists.{list_end}
use Rattle.dwc_write.proofs.ListLaws.{entry-behind}
use Rattle.dwc_write.proofs.lists.write_list.Goals as goal

pub returns : goal.returns
returns g c = entry-behind c.args.version c.args.size (map g.T.Listed.listed c.args.entries.now) list_end c.args.lists.now c.write_entries.new.lists c.write_entry.new.lists c.write_entry.result c.in_ok-write_entries.ensures c.write_entry.ensures
