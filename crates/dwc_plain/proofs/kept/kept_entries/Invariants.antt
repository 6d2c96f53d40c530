use Rattle.std.proofs.Common.{◌≡◌, map}
use Rattle.dwc_rules.specs.Kept.{steps_of}
use Rattle.dwc_plain.specs.PlainEntries.{function_view, entry_view, required_entries}
use Rattle.dwc_plain.proofs.kept.kept_entries.Given as goal

-- as many steps were made as were counted
abbrev pub invariant-loop : goal.invariant-loop
invariant-loop l = map entry_view l.kept.items ≡ steps_of l.counter (map entry_view l.entries) (required_entries (map function_view l.functions) (map entry_view l.entries))
