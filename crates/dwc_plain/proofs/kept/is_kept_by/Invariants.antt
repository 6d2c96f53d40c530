use Rattle.std.proofs.Common.{◌≡◌, map, drop}
use Rattle.dwc_plain.specs.PlainEntries.{entry_view, kept_by}
use Rattle.dwc_plain.proofs.kept.is_kept_by.Given as goal

-- an entry that none so far keeps is kept where one that is left keeps it
abbrev pub invariant-loop-keeper : goal.invariant-loop-keeper
invariant-loop-keeper l = kept_by (map entry_view l.entries) (map entry_view (drop l.keeper-index l.kept)) (entry_view l.entry) ≡ kept_by (map entry_view l.entries) (map entry_view l.kept) (entry_view l.entry)
