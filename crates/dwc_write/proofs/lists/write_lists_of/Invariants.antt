use Rattle.std.proofs.Common.{◌≡◌, drop}
use Rattle.dwc_unit.specs.Lists.{lists_by, lists_of_attributes}
use Rattle.dwc_write.proofs.ListLaws.{lists_whole}
use Rattle.dwc_write.proofs.lists.write_lists_of.Given as goal

-- what is there, with the lists of the attributes that are left, is the whole
abbrev pub invariant-loop-i : goal.invariant-loop-i
invariant-loop-i l =
    lists_whole l.version l.initial.lists.order l.size (lists_of_attributes (lists_by l.kind) (drop l.i l.attributes)) l.lists ≡ lists_whole l.version l.initial.lists.order l.size (lists_of_attributes (lists_by l.kind) l.attributes) l.initial.lists
