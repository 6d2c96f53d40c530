use Rattle.std.proofs.Common.{◌≡◌, ◌+◌, drop, map}
use Rattle.dwc_unit.specs.Lists.{ended, list_length}
use Rattle.dwc_write.proofs.list_places.behind_list.Given as goal

-- behind the entries that are left, with the end, stands what stands behind all
abbrev pub invariant-loop-i : goal.invariant-loop-i
invariant-loop-i g l =
    l.next + list_length l.version l.size (ended (map g.T.Listed.listed (drop l.i l.entries))) ≡ l.place + list_length l.version l.size (ended (map g.T.Listed.listed l.entries))
