use Rattle.std.proofs.Common.{◌≡◌, map, drop}
use Rattle.dwc_dwarf.specs.Entries.{attribute}
use Rattle.dwc_plain.specs.PlainEntries.{attribute_view, entry_view, first_value}
use Rattle.dwc_plain.proofs.entries.value_of.Given as goal

-- the first value among the attributes that are left is that among all
abbrev pub invariant-loop-attribute : goal.invariant-loop-attribute
invariant-loop-attribute l = first_value l.name (map attribute_view (drop l.attribute-index l.attribute-items)) ≡ attribute l.name (entry_view l.entry).entry
