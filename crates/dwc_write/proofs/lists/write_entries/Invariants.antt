use Rattle.std.proofs.Common.{◌≡◌, drop, map}
use Rattle.dwc_unit.specs.Lists.{listed_bytes, listed_relocations}
use Rattle.dwc_section.proofs.WritesLaws.{whole}
use Rattle.dwc_write.proofs.lists.write_entries.Given as goal

-- what is there, with the entries that are left, is the whole
abbrev pub invariant-loop-i : goal.invariant-loop-i
invariant-loop-i g l =
    let es = map g.T.Listed.listed l.entries in
    whole (listed_bytes l.version l.initial.lists.order l.size) (listed_relocations l.version l.initial.lists.order l.size) (drop l.i es) l.lists ≡ whole (listed_bytes l.version l.initial.lists.order l.size) (listed_relocations l.version l.initial.lists.order l.size) es l.initial.lists
