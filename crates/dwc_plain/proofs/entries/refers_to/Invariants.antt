use Rattle.std.proofs.Common.{◌≡◌, map, drop}
use Rattle.dwc_rules.specs.Kept.{refers_to}
use Rattle.dwc_plain.specs.PlainEntries.{attribute_view, entry_view, any_names}
use Rattle.dwc_plain.proofs.entries.refers_to.Given as goal

-- whether an attribute that is left refers is whether any does
abbrev pub invariant-loop-attribute : goal.invariant-loop-attribute
invariant-loop-attribute l = any_names (entry_view l.entry) (entry_view l.other) (map attribute_view (drop l.attribute-index l.attribute-items)) ≡ refers_to (entry_view l.entry) (entry_view l.other)
