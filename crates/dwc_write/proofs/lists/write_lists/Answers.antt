use Rattle.std.proofs.Common.{◌∙◌, map, sym}
use Rattle.dwc_unit.specs.FileOrders.{looked_up}
use Rattle.dwc_unit.specs.GivenUnits.{lists_of_entries}
use Rattle.dwc_unit.specs.Lists.{lists_by}
use Rattle.dwc_write.proofs.ContributionLaws.{none-there, nothing-written}
use Rattle.dwc_write.proofs.lists.write_lists.Goals as goal

pub returns-then-are_all_free : goal.returns-then-are_all_free
returns-then-are_all_free c =
    let gs = map (looked_up c.args.additions.now) c.args.order.now in
    nothing-written c.args.version c.args.size (lists_of_entries (lists_by c.args.kind) gs) c.args.lists.now (none-there c.args.kind gs (sym c.are_all_free.ensures ∙ c.if-are_all_free.true))
