use Rattle.std.proofs.Common.{◌≡◌, map, drop}
use Rattle.dwc_rules.specs.Kept.{is_among}
use Rattle.dwc_plain.specs.PlainEntries.{entry_view}
use Rattle.dwc_plain.proofs.kept.is_among.Given as goal

-- an entry that is not among those so far is among all where it is among those that are left
abbrev pub invariant-loop-other : goal.invariant-loop-other
invariant-loop-other l = is_among (map entry_view (drop l.other-index l.entries)) (entry_view l.entry) ≡ is_among (map entry_view l.entries) (entry_view l.entry)
