use Rattle.std.proofs.Common.{◌≡◌, map, option_map, drop}
use Rattle.std.specs.Option.{option_or}
use Rattle.dwc_rules.specs.Kept.{parent_of}
use Rattle.dwc_plain.specs.PlainEntries.{entry_view, last_above}
use Rattle.dwc_plain.proofs.kept.parent_of.Given as goal

-- the last one above it among those that are left, or else the one that was found, is the parent
abbrev pub invariant-loop-other : goal.invariant-loop-other
invariant-loop-other l = option_or (last_above (entry_view l.entry) (map entry_view (drop l.other-index l.entries))) (option_map entry_view l.found) ≡ parent_of (map entry_view l.entries) (entry_view l.entry)
