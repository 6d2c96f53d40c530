use Rattle.std.proofs.Common.{◌≡◌, drop, map}
use Rattle.dwc_unit.specs.FileOrders.{looked_up}
use Rattle.dwc_unit.specs.GivenUnits.{lists_of_entries}
use Rattle.dwc_unit.specs.Lists.{lists_by}
use Rattle.dwc_write.proofs.ListLaws.{lists_whole}
use Rattle.dwc_write.proofs.lists.put_lists.Given as goal

-- what is there, with the lists of the entries that are left, is the whole
abbrev pub invariant-loop-i : goal.invariant-loop-i
invariant-loop-i l =
    let es = map (looked_up l.additions) l.order in
    lists_whole l.version l.initial.lists.order l.size (lists_of_entries (lists_by l.kind) (drop l.i es)) l.lists ≡ lists_whole l.version l.initial.lists.order l.size (lists_of_entries (lists_by l.kind) es) l.initial.lists
