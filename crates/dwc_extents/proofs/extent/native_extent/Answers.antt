use Rattle.std.proofs.Common.{ap, sym, ◌∙◌}
use Rattle.dwc_dwarf.specs.Lists.{list_source}
use Rattle.dwc_rules.specs.RangeAttributes.{said_extent}
use Rattle.dwc_read.specs.EntriesSeen.{entry_view}
use Rattle.dwc_extents.proofs.CodeNameLaws.{nowhere-is}
use Rattle.dwc_extents.proofs.extent.native_extent.Goals as goal

pub returns-then-not-speaks-clause-says : goal.returns-then-not-speaks-clause-says
returns-then-not-speaks-clause-says c =
    let u = c.args.unit.now in
    ap (said_extent c.args.transform.now c.args.entry.now.tag) (nowhere-is (list_source u.sections u.header) c.args.transform.now (entry_view c.args.entry.now) (sym c.requires.speaks ∙ c.if-not-speaks.true))
