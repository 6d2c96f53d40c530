use Rattle.std.proofs.Common.{◌≡◌, ◌++◌, map, drop}
use Rattle.dwc_plain.specs.PlainEntries.{function_view, entry_view, required_entries}
use Rattle.dwc_plain.proofs.kept.required_entries.Given as goal

-- those so far, and the required ones among those that are left, are all
abbrev pub invariant-loop-entry : goal.invariant-loop-entry
invariant-loop-entry l = map entry_view l.found.items ++ required_entries (map function_view l.functions) (map entry_view (drop l.entry-index l.entries)) ≡ required_entries (map function_view l.functions) (map entry_view l.entries)
