use Rattle.std.proofs.Common.{◌≡◌, ◌++◌, map, drop}
use Rattle.dwc_rules.specs.Kept.{kept_step}
use Rattle.dwc_plain.specs.PlainEntries.{entry_view, kept_among}
use Rattle.dwc_plain.proofs.kept.kept_step.Given as goal

-- those so far, and the kept ones among those that are left, are all
abbrev pub invariant-loop-entry : goal.invariant-loop-entry
invariant-loop-entry l = map entry_view l.found.items ++ kept_among (map entry_view l.entries) (map entry_view l.kept) (map entry_view (drop l.entry-index l.entries)) ≡ kept_step (map entry_view l.entries) (map entry_view l.kept)
